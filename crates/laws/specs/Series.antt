-- The exponential's sum to the power m, of x over q, cleared of fractions.
use Rattle.std.specs.Prelude.{ℕ, zero, suc, ◌*◌, ◌-◌, ◌/◌, ◌^◌}
use Rattle.laws.specs.Sums.{sum}

unfoldable pub factorial : ℕ → ℕ
factorial zero = 1
factorial (suc n) = suc n * factorial n

-- (x/q)^j / j!, times q^m m!
unfoldable pub cleared : ℕ → ℕ → ℕ → ℕ → ℕ
cleared q m x j = x ^ j * (q ^ (m - j) * (factorial m / factorial j))

-- 1 + x/q + .. + (x/q)^m / m!, as a fraction over q^m m!
unfoldable pub exponential_top : ℕ → ℕ → ℕ → ℕ
exponential_top q m x = sum (cleared q m x) (suc m)

unfoldable pub exponential_bottom : ℕ → ℕ → ℕ
exponential_bottom q m = q ^ m * factorial m
