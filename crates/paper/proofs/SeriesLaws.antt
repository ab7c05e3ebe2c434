-- The laws of E, over the whole numbers `numerator X` and `denominator`: E(x) is numerator X / denominator.
use Prim.Native.Nat.{ℕ, suc, ◌+◌, ◌*◌, ◌^◌, ◌≤◌, ◌<◌}
use mathlib.Core.Path.{◌≡◌, sym, ◌∙◌}
use native.Mathlib.Nat.{lt_of_lt_of_le, mul-le-mul_left}
use lib.Dec.{lit<, lit≤}
use Rattle.laws.specs.Series.{factorial, exponential_bottom}
use Rattle.laws.proofs.Nearest.{nearest-le}
use Rattle.laws.proofs.Series.{bottom-pos, bottom-le-top, top-zero, exponential-above, exponential-close}
use Rattle.paper.specs.Scales.{exponent_scale, billion}
use Rattle.paper.specs.Series.{denominator, numerator, billion_over_e}
use Rattle.paper.proofs.Terms.{numerator-is, denominator-is}

-- ten to the 64 is far below 64 factorial
small : 10 ^ 15 * (10 * exponent_scale) ^ 64 ≤ exponential_bottom exponent_scale 64
unfolding exponential_bottom factorial
small = lit≤ tt

-- ---- the theorems

pub denominator-positive : 0 < denominator
denominator-positive = rw denominator-is (bottom-pos exponent_scale 64 (lit< tt))

-- E is at least 1
pub denominator-least : (a : ℕ) → denominator ≤ numerator a
denominator-least a = rw (denominator-is, numerator-is a) (bottom-le-top exponent_scale 64 a)

pub numerator-positive : (a : ℕ) → 0 < numerator a
numerator-positive a = lt_of_lt_of_le denominator-positive (denominator-least a)

-- E(0) is 1
pub numerator-zero : numerator 0 ≡ denominator
numerator-zero = numerator-is 0 ∙ top-zero exponent_scale 64 ∙ sym denominator-is

-- E(a) E(b) is at least E(a + b)
pub product-least : (a b : ℕ) → denominator * numerator (a + b) ≤ numerator a * numerator b
product-least a b = simp (denominator-is, numerator-is) (exponential-above exponent_scale 64 a b (lit< tt))

-- and at most E(a + b)(1 + 10^-15), wherever a + b ≤ 10
pub product-most : (a b : ℕ) → a + b ≤ 10 * exponent_scale → 10 ^ 15 * (numerator a * numerator b) ≤ suc (10 ^ 15) * (denominator * numerator (a + b))
product-most a b h =
    simp (denominator-is, numerator-is) (exponential-close exponent_scale 64 a b 10 55 (10 ^ 15) (lit< tt) h (lit≤ tt) (lit≤ tt) (lit< tt) small)

-- E is at least 1
pub billion-over-most : (X : ℕ) → billion_over_e X ≤ billion
unfolding billion_over_e
billion-over-most X = nearest-le (numerator-positive X) (mul-le-mul_left billion (denominator-least X))
