-- The product's two loops: what is left of Y holds its lower digits, and the highest of them comes off by the weight.
use Prim.Native.Nat.{ℕ, suc, zero-le, ◌+◌, ◌*◌, ◌-◌, ◌/◌, ◌%◌, ◌^◌, ◌≤◌, ◌<◌}
use mathlib.Core.Path.{◌≡◌, refl, sym, ap, ap₂, ◌∙◌}
use native.Mathlib.Nat.{le_trans, mod-eq_of_lt, mod-lt, mul-div_cancel_left, pow-succ', pow-le-pow_right}
use native.Mathlib.Numerals.{add-one}
use native.Mathlib.Omega.{arith}
use lib.Arith.{mod-mul, digits_div, digits_mod}
use lib.Dec.{lit<}
use Rattle.laws.specs.Nearest.{nearest}
use Rattle.paper.specs.Scales.{billion}
use Rattle.paper.specs.Factor.{entry, digit, after_digits, low_start}
use Rattle.paper.proofs.FactorClose.{after-most}
use Rattle.paper.proofs.FactorDigits.{none_before}
use Rattle.factor.proofs.Entries.{whole-lack, last-lack}

-- after the rows so far
pub record Reading (start Y product rest weight row : ℕ) : Type 0 where
  pub product_is : product ≡ after_digits start Y row
  pub rest-is : rest ≡ Y % 10 ^ (11 - row)
  pub weight_is : weight ≡ 10 ^ (11 - row) / 10

pub most : {start Y product rest weight row : ℕ} → start ≤ low_start → Reading start Y product rest weight row → product ≤ low_start
most h r = rw r.product_is (le_trans (after-most _ _ _) h)

-- before the digits from the weight 10^-w down, of a Y that has no others
pub begun : (start Y w : ℕ) → w ≤ 11 → Y < 10 ^ (11 - w) → Reading start Y start Y (10 ^ (11 - w) / 10) w
begun start Y w l h = record { product_is = sym (none_before start Y w l h); rest-is = sym (mod-eq_of_lt h); weight_is = refl }

module _ {start Y product rest weight row : ℕ} (r : Reading start Y product rest weight row) (l : row < 11) where
  power : 10 ^ (11 - row) ≡ 10 * 10 ^ (10 - row)
  power = let e : 11 - row ≡ suc (10 - row) = omega arith in rw e (pow-succ' 10 (10 - row))

  positive : 0 < 10 ^ (10 - row)
  positive = pow-le-pow_right (lit< tt) {i = 0} {j = 10 - row} zero-le

  pub here : weight ≡ 10 ^ (10 - row)
  here = r.weight_is ∙ ap (λ (n : ℕ). n / 10) power ∙ mul-div_cancel_left (10 ^ (10 - row)) (lit< tt)

  -- what is left: the row's digit times its weight, and the digits below
  left : rest ≡ digit Y row * 10 ^ (10 - row) + Y % 10 ^ (10 - row)
  unfolding digit
  left = r.rest-is ∙ ap (λ (n : ℕ). Y % n) power ∙ mod-mul Y {m = 10} {c = 10 ^ (10 - row)} (lit< tt) positive

  pub weighs : 0 < weight
  weighs = rw here positive

  pub digit-is : rest / weight ≡ digit Y row
  digit-is = rw (here, left) (digits_div (digit Y row) (mod-lt Y positive))

  pub turn : {next : ℕ} → next ≡ nearest (product * entry row (digit Y row)) billion → Reading start Y next (rest % weight) (weight / 10) (row + 1)
  unfolding after_digits
  turn e =
      let less : 11 - suc row ≡ 10 - row = omega arith in
      rw add-one (record {
        product_is = e ∙ ap (λ (n : ℕ). nearest (n * entry row (digit Y row)) billion) r.product_is;
        rest-is = rw (less, here, left) (digits_mod (digit Y row) (mod-lt Y positive));
        weight_is = rw (less, here);
      })

pub digit_low : (Y w : ℕ) → digit Y w < 10
unfolding digit
digit_low Y w = mod-lt (Y / 10 ^ (10 - w)) (lit< tt)

-- ---- the last five rows

module _ {start Y product rest weight row : ℕ} (r : Reading start Y product rest weight row) (f : 6 ≤ row) (l : row < 10) where
  within : row < 11
  within = omega arith

  pub light : weight ≤ 10 ^ 4
  light = rw (here r within) (pow-le-pow_right (lit< tt) {i = 10 - row} {j = 4} (omega arith))

  pub lower-turn : {next : ℕ} → next ≡ nearest (product * (10 ^ 10 - rest / weight * weight)) (10 ^ 10)
      → Reading start Y next (rest % weight) (weight / 10) (row + 1)
  lower-turn e =
      turn r within
      (e
      ∙ ap₂ (λ (d v : ℕ). nearest (product * (10 ^ 10 - d * v)) (10 ^ 10)) (digit-is r within) (here r within)
      ∙ whole-lack product row (digit Y row) f l (digit_low Y row))

module _ {start Y product rest weight : ℕ} (r : Reading start Y product rest weight 10) where
  last-digit : rest ≡ digit Y 10
  unfolding digit
  last-digit = omega (arith, r.rest-is)

  pub last-low : rest < 10
  last-low = rw last-digit (digit_low Y 10)

  pub last_turn : {next m : ℕ} → (rest + 4) / 10 ≡ m → next ≡ nearest (product * (10 ^ 10 - m * 10)) (10 ^ 10) → next ≡ after_digits start Y 11
  unfolding after_digits
  last_turn {next} {m} s e =
      e
      ∙ last-lack product (digit Y 10) m (digit_low Y 10) (ap (λ (d : ℕ). (d + 4) / 10) (sym last-digit) ∙ s)
      ∙ ap (λ (n : ℕ). nearest (n * entry 10 (digit Y 10)) billion) r.product_is
