-- Division to a whole number: what makes a number the nearest, that `nearest` is the one, and its forms in code.
use Prim.Native.Nat.{ℕ, zero, suc, ◌+◌, ◌-◌, ◌*◌, ◌/◌, ◌%◌, ◌≤◌, ◌<◌}
use mathlib.Core.Path.{◌≡◌, refl, sym, ap, ◌∙◌}
use native.Mathlib.Nat.{le_antisymm, lt_of_mul-lt-mul_right, mul-add, mod-lt, zero-div, div-eq_of_lt, div-add-mod, div-add-mod', mul-div-mul_left}
use native.Mathlib.Omega.{arith}
use lib.Dec.{lit<}
use lib.IntN.{ℤ, pos, negsuc, neg_ℤ, neg_ℤ-neg_ℤ, nat_abs, ◌+ℤ◌, ◌-ℤ◌, ◌*ℤ◌}
use lib.Signed.{quot_z}
use Rattle.laws.specs.Integers.{up, down}
use Rattle.laws.specs.Nearest.{nearest, nearest_ℤ, rounded_up}
use Rattle.laws.proofs.Integers.{abs_is, neg-up, neg-down, eq-parts, diff-up, diff-down, mul-up, mul-down, quot-up, quot-down, abs_neg}

-- ---- naturals

-- r is nearest to a / b, halves up
pub record Nearest (a b r : ℕ) : Type 0 where
  pub low : 2 * r * b ≤ 2 * a + b
  pub high : 2 * a < 2 * r * b + b

pub nearest-is : (a b : ℕ) → 0 < b → Nearest a b (nearest a b)
unfolding nearest
nearest-is a b h =
    let whole : 2 * b * ((2 * a + b) / (2 * b)) + (2 * a + b) % (2 * b) ≡ 2 * a + b = div-add-mod (2 * a + b) (2 * b) in
    let rest : (2 * a + b) % (2 * b) < 2 * b = mod-lt (2 * a + b) (omega arith) in
    record { low = omega arith; high = omega arith }

pub nearest-one : {a b r s : ℕ} → Nearest a b r → Nearest a b s → r ≡ s
nearest-one {a} {b} {r} {s} h k = le_antisymm (up-to h k) (up-to k h)
  where
    up-to : {m n : ℕ} → Nearest a b m → Nearest a b n → m ≤ n
    up-to {m} {n} f g =
        let l : m * b < suc n * b = omega (arith, f.low, g.high) in
        let m' : m < suc n = lt_of_mul-lt-mul_right b l in
        omega arith

pub nearest-of : {a b r : ℕ} → 0 < b → Nearest a b r → nearest a b ≡ r
nearest-of {a} {b} p h = nearest-one (nearest-is a b p) h

pub nearest_zero : (b : ℕ) → nearest 0 b ≡ 0
unfolding nearest
nearest_zero zero = refl
nearest_zero (suc b) = div-eq_of_lt {n = 0 + suc b} {m = 2 * suc b} (omega arith)

pub nearest-whole : (n : ℕ) {b : ℕ} → 0 < b → nearest (n * b) b ≡ n
nearest-whole n {b} h = nearest-of h (record { low = omega arith; high = omega arith })

-- by an even number, as code has it: at h = 500000000 it is (n + 500000000) / 1000000000
pub nearest-even : (n h : ℕ) → nearest n (2 * h) ≡ (n + h) / (2 * h)
unfolding nearest
nearest-even n h = rw (← mul-add 2 n h) (mul-div-mul_left (n + h) (2 * h) (lit< tt))

-- in tenths
pub nearest-tenths : (a b : ℕ) → nearest (10 * a) (10 * b) ≡ nearest a b
unfolding nearest
nearest-tenths a b =
    let top : 2 * (10 * a) + 10 * b ≡ 10 * (2 * a + b) = omega arith in
    let bottom : 2 * (10 * b) ≡ 10 * (2 * b) = omega arith in
    rw (top, bottom) (mul-div-mul_left (2 * a + b) (2 * b) (lit< tt))

pub nearest-le : {a b n : ℕ} → 0 < b → a ≤ n * b → nearest a b ≤ n
nearest-le {a} {b} {n} p h =
    let l : nearest a b * b < suc n * b = omega (arith, (nearest-is a b p).low) in
    let m : nearest a b < suc n = lt_of_mul-lt-mul_right b l in
    omega arith

pub rounded_up-is : (a b : ℕ) → 0 < b → (a ≤ rounded_up a b * b) × (rounded_up a b * b < a + b)
unfolding rounded_up
rounded_up-is a b p =
    let whole : (a + (b - 1)) / b * b + (a + (b - 1)) % b ≡ a + (b - 1) = div-add-mod' (a + (b - 1)) b in
    let rest : (a + (b - 1)) % b < b = mod-lt (a + (b - 1)) p in
    (omega arith, omega arith)

-- ---- integers

pub near_up : (z : ℤ) (b : ℕ) → up (nearest_ℤ z b) ≡ nearest (up z) b
unfolding nearest_ℤ
near_up (pos n) b = refl
near_up (negsuc n) b = neg-up (pos (nearest (suc n) b)) ∙ sym (nearest_zero b)

pub near_down : (z : ℤ) (b : ℕ) → down (nearest_ℤ z b) ≡ nearest (down z) b
unfolding nearest_ℤ
near_down (pos n) b = sym (nearest_zero b)
near_down (negsuc n) b = neg-down (pos (nearest (suc n) b))

pub near-abs : (z : ℤ) (b : ℕ) → nat_abs (nearest_ℤ z b) ≡ nearest (nat_abs z) b
unfolding nearest_ℤ
near-abs (pos n) b = refl
near-abs (negsuc n) b = abs_neg (pos (nearest (suc n) b))

pub near-neg : (z : ℤ) (b : ℕ) → nearest_ℤ (neg_ℤ z) b ≡ neg_ℤ (nearest_ℤ z b)
unfolding nearest_ℤ
near-neg (pos zero) b = rw (nearest_zero b)
near-neg (pos (suc n)) b = refl
near-neg (negsuc n) b = sym (neg_ℤ-neg_ℤ (pos (nearest (suc n) b)))

pub near_le : {n b : ℕ} (z : ℤ) → 0 < b → nat_abs z ≤ n * b → nat_abs (nearest_ℤ z b) ≤ n
near_le {n} {b} z p h = rw (near-abs z b) (nearest-le p h)

-- it is the nearest: b times the result is at most half of b from z
pub near-close : (z : ℤ) (b : ℕ) → 0 < b → 2 * nat_abs (nearest_ℤ z b *ℤ pos b -ℤ z) ≤ b
unfolding nearest_ℤ
near-close (pos n) b p =
    let r = nearest-is n b p in
    let x = pos (nearest n b * b) in
    omega (arith, abs_is (x -ℤ pos n), diff-up x (pos n), diff-down x (pos n), r.low, r.high)
near-close (negsuc n) b p =
    let r = nearest-is (suc n) b p in
    let y = neg_ℤ (pos (nearest (suc n) b)) in
    let x = y *ℤ pos b in
    omega (
      arith,
      abs_is (x -ℤ negsuc n),
      diff-up x (negsuc n),
      diff-down x (negsuc n),
      mul-up y (pos b),
      mul-down y (pos b),
      ap (λ (m : ℕ). m * b) (neg-up (pos (nearest (suc n) b))),
      ap (λ (m : ℕ). m * b) (neg-down (pos (nearest (suc n) b))),
      r.low,
      r.high,
    )

-- in code: half of an even divisor is added on the number's own side, and the division goes toward zero
pub quot_above : (z : ℤ) (h : ℕ) → down z ≡ 0 → quot_z (z +ℤ pos h) (pos (2 * h)) ≡ nearest_ℤ z (2 * h)
unfolding nearest_ℤ
quot_above (pos n) h e = ap pos (sym (nearest-even n h))
quot_above (negsuc n) h e = absurd (omega arith)

pub quot_below : (z : ℤ) (h : ℕ) → up z ≡ 0 → quot_z (z -ℤ pos h) (pos (2 * h)) ≡ nearest_ℤ z (2 * h)
quot_below z h e =
    let none : up (z -ℤ pos h) ≡ 0 = omega (arith, diff-up z (pos h)) in
    let more : down (z -ℤ pos h) ≡ down z + h = omega (arith, diff-down z (pos h)) in
    eq-parts (quot_z (z -ℤ pos h) (pos (2 * h))) (nearest_ℤ z (2 * h))
    (rw (quot-up (z -ℤ pos h) (2 * h), near_up z (2 * h), none, e) (zero-div (2 * h) ∙ sym (nearest_zero (2 * h))))
    (rw (quot-down (z -ℤ pos h) (2 * h), near_down z (2 * h), more) (sym (nearest-even (down z) h)))
