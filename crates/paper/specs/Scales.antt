-- Rates, midpoints and money are counted on three scales: millionths, ten-thousandths of a year, whole thousands (01, "What the product covers").
-- A rate times a midpoint is an exponent, so exponents are counted in units of 10^-10. Discount factors are billionths.
use Rattle.std.specs.Prelude.{ℕ, ◌*◌}

-- one, in millionths
abbrev pub rate_scale : ℕ
rate_scale = 1000000

-- a year, in ten-thousandths
abbrev pub year_scale : ℕ
year_scale = 10000

-- one, as an exponent
abbrev pub exponent_scale : ℕ
exponent_scale = rate_scale * year_scale

-- one, as a factor; and the limit on amounts and on sums of magnitudes, in thousands
abbrev pub billion : ℕ
billion = 1000000000
