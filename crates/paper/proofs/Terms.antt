-- The series is what it says: each term is x to the j over j factorial, for x = X / 10^10, and the sum is the one whose laws `laws` has.
use Prim.Native.Nat.{ℕ, ◌*◌, ◌^◌, ◌≤◌}
use mathlib.Core.Path.{◌≡◌, refl}
use Rattle.laws.specs.Series.{factorial, cleared, exponential_top, exponential_bottom}
use Rattle.laws.proofs.Terms.{cleared-literal}
use Rattle.paper.specs.Scales.{exponent_scale}
use Rattle.paper.specs.Series.{denominator, series_term, numerator}

-- a term over `denominator` is X^j over (10^10)^j j!
pub term_is : (X j : ℕ) → j ≤ 64 → series_term X j * (exponent_scale ^ j * factorial j) ≡ X ^ j * denominator
unfolding series_term cleared denominator exponential_bottom
term_is X j h = cleared-literal exponent_scale 64 X j h

pub numerator-is : (X : ℕ) → numerator X ≡ exponential_top exponent_scale 64 X
unfolding numerator exponential_top series_term cleared
numerator-is X = refl

pub denominator-is : denominator ≡ exponential_bottom exponent_scale 64
unfolding denominator exponential_bottom
denominator-is = refl
