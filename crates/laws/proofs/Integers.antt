-- Integers for omega. Each operation is said by equations of ℕ between `up` and `down`, which omega reads; the order is in `Order`,
-- and an equation of integers follows from one of ℕ by `eq_of`.
use Prim.Native.Nat.{ℕ, zero, suc, ◌+◌, ◌-◌, ◌*◌, ◌/◌, ◌≤◌, min}
use mathlib.Core.Bool.{Bool, true, false, cond}
use mathlib.Core.Path.{◌≡◌, refl, sym, ap, ◌∙◌}
use native.Mathlib.Nat.{zero-div}
use native.Mathlib.Omega.{arith}
use borrow.Author.Tests.{ltb-true, ltb-false}
use lib.Dec.{ltb}
use lib.IntN.{ℤ, pos, negsuc, +ℤ_idl, neg_ℤ, nat_abs, sub_ℕ, ◌+ℤ◌, ◌-ℤ◌, ◌*ℤ◌}
use lib.Signed.{quot_z}
use Rattle.laws.specs.Integers.{up, down}

-- ---- the two parts

pub abs_is : (z : ℤ) → nat_abs z ≡ up z + down z
abs_is (pos n) = omega arith
abs_is (negsuc n) = omega arith

-- one of the two is 0: omega reads `min`
pub side : (z : ℤ) → min (up z) (down z) ≡ 0
side (pos n) = omega arith
side (negsuc n) = omega arith

pub zero-abs : (z : ℤ) → nat_abs z ≡ 0 → z ≡ pos 0
zero-abs (pos n) e = ap pos e
zero-abs (negsuc n) e = absurd (omega arith)

pub neg-up : (z : ℤ) → up (neg_ℤ z) ≡ down z
neg-up (pos zero) = refl
neg-up (pos (suc n)) = refl
neg-up (negsuc n) = refl

pub neg-down : (z : ℤ) → down (neg_ℤ z) ≡ up z
neg-down (pos zero) = refl
neg-down (pos (suc n)) = refl
neg-down (negsuc n) = refl

-- ---- equality, with no subtraction

pub eq_of : (a b : ℤ) → up a + down b ≡ down a + up b → a ≡ b
eq_of (pos m) (pos n) e = ap pos (omega arith)
eq_of (pos m) (negsuc n) e = absurd (omega arith)
eq_of (negsuc m) (pos n) e = absurd (omega arith)
eq_of (negsuc m) (negsuc n) e = ap negsuc (omega arith)

pub eq-parts : (a b : ℤ) → up a ≡ up b → down a ≡ down b → a ≡ b
eq-parts a b e f = eq_of a b (omega arith)

pub eq_is : (a b : ℤ) → a ≡ b → up a + down b ≡ down a + up b
eq_is a b e = rw (e) (omega arith)

-- ---- the difference of two naturals

by-test : (c : Bool) (x y : ℤ) (P : ℤ → Type 0) → (c ≡ true → P x) → (c ≡ false → P y) → P (cond c x y)
by-test true x y P f g = f refl
by-test false x y P f g = g refl

pub sub-up : (a b : ℕ) → up (sub_ℕ a b) ≡ a - b
sub-up a b =
    by-test (ltb a b) (negsuc (b - suc a)) (pos (a - b)) (λ z. up z ≡ a - b) (λ t. omega (arith, ltb-true a b t)) (λ t. refl)

pub sub-down : (a b : ℕ) → down (sub_ℕ a b) ≡ b - a
sub-down a b =
    by-test (ltb a b) (negsuc (b - suc a)) (pos (a - b)) (λ z. down z ≡ b - a) (λ t. omega (arith, ltb-true a b t))
    (λ t. omega (arith, ltb-false a b t))

-- ---- sums and differences: exact, for bounds, and balanced, for equations (omega splits at each subtraction)

pub add-up : (a b : ℤ) → up (a +ℤ b) ≡ (up a + up b) - (down a + down b)
add-up (pos m) (pos n) = omega arith
add-up (pos m) (negsuc n) = omega (arith, sub-up m (suc n))
add-up (negsuc m) (pos n) = omega (arith, sub-up n (suc m))
add-up (negsuc m) (negsuc n) = omega arith

pub add-down : (a b : ℤ) → down (a +ℤ b) ≡ (down a + down b) - (up a + up b)
add-down (pos m) (pos n) = omega arith
add-down (pos m) (negsuc n) = omega (arith, sub-down m (suc n))
add-down (negsuc m) (pos n) = omega (arith, sub-down n (suc m))
add-down (negsuc m) (negsuc n) = omega arith

pub add_is : (a b : ℤ) → up (a +ℤ b) + (down a + down b) ≡ down (a +ℤ b) + (up a + up b)
add_is a b = omega (arith, add-up a b, add-down a b)

pub diff-up : (a b : ℤ) → up (a -ℤ b) ≡ (up a + down b) - (down a + up b)
diff-up a b = omega (arith, add-up a (neg_ℤ b), neg-up b, neg-down b)

pub diff-down : (a b : ℤ) → down (a -ℤ b) ≡ (down a + up b) - (up a + down b)
diff-down a b = omega (arith, add-down a (neg_ℤ b), neg-up b, neg-down b)

pub sub_is : (a b : ℤ) → up (a -ℤ b) + (down a + up b) ≡ down (a -ℤ b) + (up a + down b)
sub_is a b = omega (arith, add_is a (neg_ℤ b), neg-up b, neg-down b)

pub zero-sub : (z : ℤ) → pos 0 -ℤ z ≡ neg_ℤ z
zero-sub z = +ℤ_idl (neg_ℤ z)

pub pos-sub-pos : (a b : ℕ) → pos a -ℤ pos b ≡ sub_ℕ a b
pos-sub-pos a b =
    eq_of (pos a -ℤ pos b) (sub_ℕ a b) (omega (arith, diff-up (pos a) (pos b), diff-down (pos a) (pos b), sub-up a b, sub-down a b))

-- ---- the product

pub mul-up : (a b : ℤ) → up (a *ℤ b) ≡ up a * up b + down a * down b
mul-up (pos m) (pos n) = omega arith
mul-up (pos m) (negsuc n) = omega (arith, neg-up (pos (m * suc n)))
mul-up (negsuc m) (pos n) = omega (arith, neg-up (pos (suc m * n)))
mul-up (negsuc m) (negsuc n) = omega arith

pub mul-down : (a b : ℤ) → down (a *ℤ b) ≡ up a * down b + down a * up b
mul-down (pos m) (pos n) = omega arith
mul-down (pos m) (negsuc n) = omega (arith, neg-down (pos (m * suc n)))
mul-down (negsuc m) (pos n) = omega (arith, neg-down (pos (suc m * n)))
mul-down (negsuc m) (negsuc n) = omega arith

-- ---- division toward zero, by a natural

pub quot-up : (z : ℤ) (d : ℕ) → up (quot_z z (pos d)) ≡ up z / d
quot-up (pos n) d = refl
quot-up (negsuc n) d = neg-up (pos (suc n / d)) ∙ sym (zero-div d)

pub quot-down : (z : ℤ) (d : ℕ) → down (quot_z z (pos d)) ≡ down z / d
quot-down (pos n) d = sym (zero-div d)
quot-down (negsuc n) d = neg-down (pos (suc n / d))

-- ---- magnitudes

pub abs-add : (a b : ℤ) → nat_abs (a +ℤ b) ≤ nat_abs a + nat_abs b
abs-add a b = omega (arith, abs_is a, abs_is b, abs_is (a +ℤ b), add-up a b, add-down a b)

pub abs_neg : (a : ℤ) → nat_abs (neg_ℤ a) ≡ nat_abs a
abs_neg a = omega (arith, abs_is a, abs_is (neg_ℤ a), neg-up a, neg-down a)

pub abs-sub : (a b : ℤ) → nat_abs (a -ℤ b) ≤ nat_abs a + nat_abs b
abs-sub a b = omega (arith, abs-add a (neg_ℤ b), abs_neg b)

pub abs-mul : (a b : ℤ) → nat_abs (a *ℤ b) ≡ nat_abs a * nat_abs b
abs-mul (pos m) (pos n) = refl
abs-mul (pos m) (negsuc n) = abs_neg (pos (m * suc n))
abs-mul (negsuc m) (pos n) = abs_neg (pos (suc m * n))
abs-mul (negsuc m) (negsuc n) = refl

pub abs-quot : (z : ℤ) (d : ℕ) → nat_abs (quot_z z (pos d)) ≡ nat_abs z / d
abs-quot (pos n) d = refl
abs-quot (negsuc n) d = abs_neg (pos (suc n / d))
