-- The exact change: from the ledger's whole-number flows, the sums without division's rounding and with exact factors, the add-on included,
-- on the base rates and the rounded shocked rates. The exact measure follows from exact changes.
use Rattle.std.specs.Prelude.{ℕ, suc, ◌*◌, ℤ, pos, negsuc}
use Rattle.laws.specs.Ratio.{Ratio, whole, ◌+ℚ◌, ◌-ℚ◌, ◌*ℚ◌, ◌/ℚ◌, positive, sum_ℚ, greatest_ℚ}
use Rattle.paper.specs.Scales.{billion}
use Rattle.paper.specs.Ladder.{buckets}
use Rattle.paper.specs.Series.{numerator, denominator}
use Rattle.paper.specs.Ledger.{Totals}
use Rattle.paper.specs.Change.{exponent}

-- a billion over E(x) for x at least 0, a billion times E(-x) below it
unfoldable pub exact_factor : ℤ → Ratio
exact_factor (pos X) = record { num = pos (billion * denominator); den = numerator X }
exact_factor (negsuc n) = record { num = pos (billion * numerator (suc n)); den = denominator }

unfoldable pub exact_value : Totals → ℕ → ℕ → Ratio
exact_value t c i = sum_ℚ (λ k. t.cell c i k *ℚ exact_factor (exponent (t.rate c i k) k)) buckets

unfoldable pub exact_change : Totals → ℕ → ℕ → Ratio
exact_change t c i = (exact_value t c 0 -ℚ exact_value t c i) /ℚ billion +ℚ whole (t.add_on c i)

unfoldable pub exact_sum : ℕ → Totals → ℕ → Ratio
exact_sum top t i = sum_ℚ (λ c. positive (exact_change t (suc c) i)) top

unfoldable pub exact_measure : ℕ → Totals → Ratio
exact_measure top t = greatest_ℚ (exact_sum top t) 6
