-- The series E. x is an exponent: X / 10^10 for a whole number X, and E(x) is the fraction `numerator X / denominator` of whole numbers.
use Rattle.std.specs.Prelude.{ℕ, ◌*◌, ◌-◌, ◌/◌, ◌^◌}
use Rattle.laws.specs.Sums.{sum}
use Rattle.laws.specs.Nearest.{nearest}
use Rattle.laws.specs.Series.{factorial}
use Rattle.paper.specs.Scales.{exponent_scale, billion}

-- what all the terms can stand over
unfoldable pub denominator : ℕ
denominator = exponent_scale ^ 64 * factorial 64

-- x to the j over j factorial, times `denominator`
unfoldable pub series_term : ℕ → ℕ → ℕ
series_term X j = X ^ j * (exponent_scale ^ (64 - j) * (factorial 64 / factorial j))

-- the sum of the terms, j from 0 to 64
unfoldable pub numerator : ℕ → ℕ
numerator X = sum (series_term X) 65

-- the nearest whole number to a billion over E(x), halves up
unfoldable pub billion_over_e : ℕ → ℕ
billion_over_e X = nearest (billion * denominator) (numerator X)
