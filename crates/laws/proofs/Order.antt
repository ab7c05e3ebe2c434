-- The order of integers and the tests of it, said by `up` and `down`. With the ruleset `ints` omega reads and proves equations,
-- orders and tests of integers.
use Prim.Native.Nat.{ℕ, suc, ◌+◌, ◌≤◌, ◌<◌}
use mathlib.Core.Bool.{true, false}
use mathlib.Core.Logic.{◌⊎◌, inl, inr, ⊎_elim}
use mathlib.Core.Path.{◌≡◌, sym, ◌∙◌}
use native.Mathlib.Nat.{add-zero, zero-add, mul-le-mul_right}
use native.Mathlib.Omega.{arith}
use borrow.Author.Tests.{ltb-true, ltb-false, leb-true, leb-false, lt-ltb, le-ltb, le-leb, lt-leb}
use lib.Dec.{ltb, leb, leb-suc-suc, leb→le, le→leb}
use lib.IntN.{ℤ, pos, negsuc, neg_ℤ, nat_abs, ◌+ℤ◌, ◌*ℤ◌}
use lib.Signed.{lt_z, le_z, ◌≤ℤ◌, ◌<ℤ◌}
use Rattle.laws.specs.Integers.{up, down}
use Rattle.laws.proofs.Tests.{lt-or-ge}
use Rattle.laws.proofs.Integers.{abs_is, side, neg-up, neg-down, eq_of, eq_is, add-up, add-down, add_is, mul-up, mul-down, quot-up, quot-down}

-- ---- a test of two integers is one of two naturals

le_z-leb : (a b : ℤ) → le_z a b ≡ leb (up a + down b) (down a + up b)
le_z-leb (pos m) (pos n) = rw (add-zero, zero-add)
le_z-leb (pos m) (negsuc n) = sym (lt-leb (m + suc n) 0 (omega arith))
le_z-leb (negsuc m) (pos n) = sym (le-leb 0 (suc m + n) (omega arith))
le_z-leb (negsuc m) (negsuc n) = rw (zero-add, add-zero, leb-suc-suc)

lt_z-ltb : (a b : ℤ) → lt_z a b ≡ ltb (up a + down b) (down a + up b)
lt_z-ltb (pos m) (pos n) = rw (add-zero, zero-add)
lt_z-ltb (pos m) (negsuc n) = sym (le-ltb (m + suc n) 0 (omega arith))
lt_z-ltb (negsuc m) (pos n) = sym (lt-ltb 0 (suc m + n) (omega arith))
lt_z-ltb (negsuc m) (negsuc n) = rw (zero-add, add-zero, leb-suc-suc)

pub le_z-true : (a b : ℤ) → le_z a b ≡ true → up a + down b ≤ down a + up b
le_z-true a b e = leb-true _ _ (sym (le_z-leb a b) ∙ e)

pub le_z-false : (a b : ℤ) → le_z a b ≡ false → down a + up b < up a + down b
le_z-false a b e = leb-false _ _ (sym (le_z-leb a b) ∙ e)

pub lt_z-true : (a b : ℤ) → lt_z a b ≡ true → up a + down b < down a + up b
lt_z-true a b e = ltb-true _ _ (sym (lt_z-ltb a b) ∙ e)

pub lt_z-false : (a b : ℤ) → lt_z a b ≡ false → down a + up b ≤ up a + down b
lt_z-false a b e = ltb-false _ _ (sym (lt_z-ltb a b) ∙ e)

pub le_z-of : (a b : ℤ) → up a + down b ≤ down a + up b → le_z a b ≡ true
le_z-of a b h = le_z-leb a b ∙ le-leb _ _ h

pub le_z-not : (a b : ℤ) → down a + up b < up a + down b → le_z a b ≡ false
le_z-not a b h = le_z-leb a b ∙ lt-leb _ _ h

pub lt_z-of : (a b : ℤ) → up a + down b < down a + up b → lt_z a b ≡ true
lt_z-of a b h = lt_z-ltb a b ∙ lt-ltb _ _ h

pub lt_z-not : (a b : ℤ) → down a + up b ≤ up a + down b → lt_z a b ≡ false
lt_z-not a b h = lt_z-ltb a b ∙ le-ltb _ _ h

pub below-zero : (z : ℤ) → lt_z z (pos 0) ≡ true → up z ≡ 0
below-zero z e = omega (arith, side z, lt_z-true z (pos 0) e)

pub not-below-zero : (z : ℤ) → lt_z z (pos 0) ≡ false → down z ≡ 0
not-below-zero z e = omega (arith, side z, lt_z-false z (pos 0) e)

-- ---- the orders

pub le_is : (a b : ℤ) → a ≤ℤ b → up a + down b ≤ down a + up b
le_is a b h = leb→le _ _ (rw (le_z-leb a b) at h.le)

pub le_of : (a b : ℤ) → up a + down b ≤ down a + up b → a ≤ℤ b
le_of a b h = record { le = rw (le_z-leb a b) (le→leb _ _ h) }

pub lt-is : (a b : ℤ) → a <ℤ b → up a + down b < down a + up b
lt-is a b h = leb→le _ _ (rw (lt_z-ltb a b) at h.lt)

pub lt_of : (a b : ℤ) → up a + down b < down a + up b → a <ℤ b
lt_of a b h = record { lt = rw (lt_z-ltb a b) (le→leb _ _ h) }

-- omega's rules: what is in reach is read as a statement of ℕ, and a goal is turned into one
pub ruleset ints = (arith, eq_of, eq_is, le_is, le_of, lt-is, lt_of, lt_z-true, lt_z-false, lt_z-of, lt_z-not, le_z-true, le_z-false, le_z-of, le_z-not)

-- `simp parts (omega arith)` proves what has at most three sums in it: each sum makes two of omega's six splits
pub ruleset parts = (add-up, add-down, neg-up, neg-down, mul-up, mul-down, quot-up, quot-down)

-- ---- laws

pub ≤_trans : (a b c : ℤ) → a ≤ℤ b → b ≤ℤ c → a ≤ℤ c
≤_trans a b c h k = omega ints

pub ≤-antisym : (a b : ℤ) → a ≤ℤ b → b ≤ℤ a → a ≡ b
≤-antisym a b h k = omega ints

pub <-or-≥ : (a b : ℤ) → (a <ℤ b) ⊎ (b ≤ℤ a)
<-or-≥ a b = ⊎_elim (λ h. inl (lt_of a b h)) (λ h. inr (le_of b a (omega arith))) (lt-or-ge (up a + down b) (down a + up b))

pub <-weaken : (a b : ℤ) → a <ℤ b → a ≤ℤ b
<-weaken a b h = omega ints

pub ≤-total : (a b : ℤ) → (a ≤ℤ b) ⊎ (b ≤ℤ a)
≤-total a b = ⊎_elim (λ h. inl (<-weaken a b h)) inr (<-or-≥ a b)

pub ≤-<-trans : (a b c : ℤ) → a ≤ℤ b → b <ℤ c → a <ℤ c
≤-<-trans a b c h k = omega ints

pub <-≤-trans : (a b c : ℤ) → a <ℤ b → b ≤ℤ c → a <ℤ c
<-≤-trans a b c h k = omega ints

pub add-≤ : (a b c d : ℤ) → a ≤ℤ b → c ≤ℤ d → (a +ℤ c) ≤ℤ (b +ℤ d)
add-≤ a b c d h k = omega (ints, add_is a c, add_is b d)

pub neg-≤ : (a b : ℤ) → a ≤ℤ b → neg_ℤ b ≤ℤ neg_ℤ a
neg-≤ a b h = omega (ints, neg-up a, neg-down a, neg-up b, neg-down b)

pub mul-≤ : (a b : ℤ) (n : ℕ) → a ≤ℤ b → (a *ℤ pos n) ≤ℤ (b *ℤ pos n)
mul-≤ a b n h =
    omega (ints, mul-up a (pos n), mul-down a (pos n), mul-up b (pos n), mul-down b (pos n), mul-le-mul_right n (le_is a b h))

pub mul-< : (a b : ℤ) (n : ℕ) → 0 < n → a <ℤ b → (a *ℤ pos n) <ℤ (b *ℤ pos n)
mul-< a b n p h =
    omega (ints, mul-up a (pos n), mul-down a (pos n), mul-up b (pos n), mul-down b (pos n), mul-le-mul_right n (lt-is a b h))

-- |z| ≤ b, as two orders
pub abs-high : (z : ℤ) (b : ℕ) → nat_abs z ≤ b → z ≤ℤ pos b
abs-high z b h = omega (ints, abs_is z)

pub abs-low : (z : ℤ) (b : ℕ) → nat_abs z ≤ b → neg_ℤ (pos b) ≤ℤ z
abs-low z b h = omega (ints, abs_is z, neg-up (pos b), neg-down (pos b))

pub abs-of : (z : ℤ) (b : ℕ) → neg_ℤ (pos b) ≤ℤ z → z ≤ℤ pos b → nat_abs z ≤ b
abs-of z b h k = omega (ints, abs_is z, side z, neg-up (pos b), neg-down (pos b))
