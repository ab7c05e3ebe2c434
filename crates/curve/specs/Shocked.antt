-- A curve as the code holds it: nineteen rates in a list, and three shocks.
use Rattle.std.specs.Prelude.{ℕ, ◌/◌, ◌%◌, ◌≤◌, List, ℤ, pos, ◌+ℤ◌, ◌-ℤ◌, ◌*ℤ◌}
use Rattle.laws.specs.Nearest.{nearest_ℤ}
use Rattle.laws.specs.Lists.{tabulate}
use Rattle.paper.specs.Scales.{billion}
use Rattle.paper.specs.declared.Shocks.{Shocks}
use Rattle.paper.specs.Curve.{Curve, short_share, shocked_rate}
use Rattle.paper.specs.Ladder.{buckets}
use Rattle.paper.specs.Ledger.{section_size}

abbrev pub curve_of : List ℤ → Shocks → Curve
curve_of rates s = record { rates = rates; shocks = s }

-- 0 to 1,000 basis points
pub record Sized (s : Shocks) : Type 0 where
  pub parallel-most : s.parallel ≤ 1000
  pub short-most : s.short ≤ 1000
  pub long-most : s.long ≤ 1000

-- so much of the short shock by s, and so much of the long one by the rest, rounded once: the form of the last four changes
unfoldable pub twisted : Shocks → ℕ → ℤ → ℤ → ℤ
twisted shocks s short long =
    nearest_ℤ (short *ℤ pos shocks.short *ℤ pos s +ℤ long *ℤ pos shocks.long *ℤ (pos billion -ℤ pos s)) billion

-- s of each bucket
unfoldable pub short_shares : List ℕ
short_shares = tabulate short_share buckets

-- the seven scenarios of a curve, as a section: scenario i from 19 i on
unfoldable pub shocked_section : Curve → List ℤ
shocked_section z = tabulate (λ j. shocked_rate z (j / buckets) (j % buckets)) section_size
