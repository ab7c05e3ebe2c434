-- From flows to changes in economic value (loss positive), and the tolerance of each.
use Rattle.std.specs.Prelude.{ℕ, ◌+◌, ◌*◌, ℤ, pos, nat_abs, ◌+ℤ◌, ◌-ℤ◌, ◌*ℤ◌, if◌then◌else◌}
use Rattle.laws.specs.Tests.{◌is◌}
use Rattle.laws.specs.Sums.{sum, sum_ℤ}
use Rattle.laws.specs.Nearest.{nearest_ℤ, rounded_up}
use Rattle.paper.specs.Scales.{billion}
use Rattle.paper.specs.Ladder.{buckets, midpoint}
use Rattle.paper.specs.Ledger.{Totals}
use Rattle.paper.specs.Factor.{factor}

-- X = rate times midpoint
unfoldable pub exponent : ℤ → ℕ → ℤ
exponent rate k = rate *ℤ pos (midpoint k)

-- the sum of flow times factor, in billionths
unfoldable pub value : Totals → ℕ → ℕ → ℤ
value t c i = sum_ℤ (λ k. t.cell c i k *ℤ pos (factor (exponent (t.rate c i k) k))) buckets

-- base sum less the scenario's sum, divided by a billion, halves away from zero, plus the add-on
unfoldable pub change : Totals → ℕ → ℕ → ℤ
change t c i = nearest_ℤ (value t c 0 -ℤ value t c i) billion +ℤ t.add_on c i

-- the sum of magnitudes of a scenario's net flows
unfoldable pub net_size : Totals → ℕ → ℕ → ℕ
net_size t c i = sum (λ k. nat_abs (t.cell c i k)) buckets

-- nil if A is nil; otherwise 1 plus 26 A / 1,000,000,000 rounded up
unfoldable pub tolerance_of : ℕ → ℕ
tolerance_of A = if A is 0 then 0 else 1 + rounded_up (26 * A) billion

unfoldable pub tolerance : Totals → ℕ → ℕ → ℕ
tolerance t c i = tolerance_of (net_size t c 0 + net_size t c i)
