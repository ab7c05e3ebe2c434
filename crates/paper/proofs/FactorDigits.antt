-- A digit of zero changes nothing, so the digits of Y can be taken in parts.
use Prim.Native.Nat.{ℕ, zero, suc, ◌+◌, ◌*◌, ◌-◌, ◌/◌, ◌%◌, ◌^◌, ◌≤◌, ◌<◌}
use mathlib.Core.Logic.{◌⊎◌, inl, inr}
use mathlib.Core.Path.{◌≡◌, refl, ap, subst, ◌∙◌}
use native.Mathlib.Nat.{zero-mul, lt_of_lt_of_le, eq-or-lt_of_le, div-eq_of_lt, mod-lt, mod-mod_of_dvd, dvd-mul_right, pow-succ', pow-le-pow_right}
use native.Mathlib.Omega.{arith}
use lib.Arith.{mod-mul, digits_div}
use lib.Dec.{lit<}
use lib.Pow.{pow-add}
use Rattle.laws.specs.Nearest.{nearest}
use Rattle.laws.proofs.Nearest.{nearest-whole}
use Rattle.paper.specs.Scales.{billion}
use Rattle.paper.specs.Series.{denominator, billion_over_e}
use Rattle.paper.specs.Factor.{entry, digit, after_digits}
use Rattle.paper.proofs.SeriesLaws.{denominator-positive, numerator-zero}

over-one : billion_over_e 0 ≡ billion
unfolding billion_over_e
over-one = ap (nearest (billion * denominator)) numerator-zero ∙ nearest-whole billion denominator-positive

zero-entry : (w : ℕ) → entry w 0 ≡ billion
unfolding entry
zero-entry w = ap billion_over_e (zero-mul (10 ^ (10 - w))) ∙ over-one

pub zero-keeps : (w n : ℕ) → nearest (n * entry w 0) billion ≡ n
zero-keeps w n = rw (zero-entry w) (nearest-whole n (lit< tt))

-- the first w digits of a Y below 10^(11 - w)
pub none_before : (start Y w : ℕ) → w ≤ 11 → Y < 10 ^ (11 - w) → after_digits start Y w ≡ start
unfolding after_digits digit
none_before start Y zero l h = refl
none_before start Y (suc w) l h =
    let e : 11 - suc w ≡ 10 - w = omega arith in
    let nil : digit Y w ≡ 0 = ap (λ (n : ℕ). n % 10) (div-eq_of_lt (rw e at h)) in
    let more : 10 ^ (11 - suc w) ≤ 10 ^ (11 - w) = pow-le-pow_right (lit< tt) (omega arith) in
    rw (none_before start Y w (omega arith) (lt_of_lt_of_le h more), nil) (zero-keeps w start)

-- from the weight 10^-w down, Y and what is left of it have the same digits
same-digit : (Y w n : ℕ) → w ≤ n → n < 11 → digit (Y % 10 ^ (11 - w)) n ≡ digit Y n
unfolding digit
same-digit Y w n l m =
    let c = 10 ^ (10 - n) in
    let k = 10 ^ (n - w) in
    let positive : 0 < c = pow-le-pow_right (lit< tt) {i = 0} {j = 10 - n} (omega arith) in
    let tens : 0 < k = pow-le-pow_right (lit< tt) {i = 0} {j = n - w} (omega arith) in
    let e : 11 - w ≡ suc (n - w) + (10 - n) = omega arith in
    let p : 10 ^ (11 - w) ≡ 10 * k * c = rw e (pow-add 10 (suc (n - w)) (10 - n) ∙ ap (λ (x : ℕ). x * c) (pow-succ' 10 (n - w))) in
    rw (p, mod-mul Y {m = 10 * k} {c = c} (omega arith) positive, digits_div (Y / c % (10 * k)) (mod-lt Y positive))
    (mod-mod_of_dvd 10 (Y / c) (dvd-mul_right 10 k))

-- the digits from the weight 10^-w down, taken of what is left of Y
module _ (start Y w : ℕ) where
  abbrev parted : ℕ → Type 0
  parted n = after_digits (after_digits start Y w) (Y % 10 ^ (11 - w)) n ≡ after_digits start Y n

  at_first : w ≤ 11 → parted w
  at_first l = none_before (after_digits start Y w) (Y % 10 ^ (11 - w)) w l (mod-lt Y (pow-le-pow_right (lit< tt) {i = 0} {j = 11 - w} (omega arith)))

  next : (n : ℕ) → n < 11 → (w ≤ n → parted n) → (w ≡ suc n) ⊎ (w < suc n) → parted (suc n)
  unfolding after_digits
  next n m h (inl e) = subst parted e (at_first (omega arith))
  next n m h (inr l) = rw (h (omega arith), same-digit Y w n (omega arith) m)

  pub in_parts : (n : ℕ) → w ≤ n → n ≤ 11 → parted n
  in_parts zero l m = let e : w ≡ 0 = omega arith in subst parted e (at_first (omega arith))
  in_parts (suc n) l m = next n m (λ k. in_parts n k (omega arith)) (eq-or-lt_of_le l)
