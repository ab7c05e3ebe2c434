-- Exact rationals: a numerator over a denominator, unreduced. A sum stands over the product of the denominators.
use Rattle.std.specs.Prelude.{ℕ, zero, suc, ◌*◌, ◌≤◌, ◌<◌, ℤ, pos, negsuc, nat_abs, ◌+ℤ◌, ◌-ℤ◌, ◌*ℤ◌, ◌≤ℤ◌, ◌<ℤ◌, if◌then◌else◌}
use Rattle.std.specs.Int.Signed.{lt_z}
use Rattle.laws.specs.Integers.{up}

infixl 6 ◌+ℚ◌ ◌-ℚ◌
infixl 7 ◌*ℚ◌ ◌/ℚ◌
infix 50 ◌≤ℚ◌ ◌<ℚ◌
pub record Ratio : Type 0 where
  pub num : ℤ
  pub den : ℕ

abbrev pub whole : ℤ → Ratio
whole z = record { num = z; den = 1 }

abbrev pub ◌+ℚ◌ : Ratio → Ratio → Ratio
q +ℚ r = record { num = q.num *ℤ pos r.den +ℤ r.num *ℤ pos q.den; den = q.den * r.den }

-- an integer times a rational, and a rational over a whole number
abbrev pub ◌*ℚ◌ : ℤ → Ratio → Ratio
z *ℚ q = record { num = z *ℤ q.num; den = q.den }

abbrev pub ◌/ℚ◌ : Ratio → ℕ → Ratio
q /ℚ n = record { num = q.num; den = q.den * n }

abbrev pub ◌-ℚ◌ : Ratio → Ratio → Ratio
q -ℚ r = q +ℚ negsuc 0 *ℚ r

-- q where it is above zero, and otherwise zero
abbrev pub positive : Ratio → Ratio
positive q = record { num = pos (up q.num); den = q.den }

-- the order, by cross multiplication: it is meant for positive denominators
abbrev pub ◌≤ℚ◌ : Ratio → Ratio → Type 0
q ≤ℚ r = (q.num *ℤ pos r.den) ≤ℤ (r.num *ℤ pos q.den)

abbrev pub ◌<ℚ◌ : Ratio → Ratio → Type 0
q <ℚ r = (q.num *ℤ pos r.den) <ℤ (r.num *ℤ pos q.den)

abbrev pub greater : Ratio → Ratio → Ratio
greater q r = if lt_z (q.num *ℤ pos r.den) (r.num *ℤ pos q.den) then r else q

-- f 0 + .. + f (n - 1)
unfoldable pub sum_ℚ : (ℕ → Ratio) → ℕ → Ratio
sum_ℚ f zero = whole (pos 0)
sum_ℚ f (suc n) = sum_ℚ f n +ℚ f n

-- the greatest of f 1, .., f n, and 0 at least
unfoldable pub greatest_ℚ : (ℕ → Ratio) → ℕ → Ratio
greatest_ℚ f zero = whole (pos 0)
greatest_ℚ f (suc n) = greater (greatest_ℚ f n) (f (suc n))

-- q is a rational, and the integer z is at most t from it: |z - q| ≤ t
pub record Within (t : ℕ) (z : ℤ) (q : Ratio) : Type 0 where
  pub proper : 0 < q.den
  pub near : nat_abs (z *ℤ pos q.den -ℤ q.num) ≤ t * q.den
