-- What the loop of `sided_row` keeps.
use mathlib.Core.Path.{◌≡◌}
use lib.IntN.{pos}
use lib.ListN.{length, get_or}
use Rattle.laws.proofs.Filling.{Filled}
use Rattle.paper.specs.Flow.{sided}
use Rattle.posting.proofs.cells.sided_row.Given as goal

abbrev pub invariant-loop-k : goal.invariant-loop-k
invariant-loop-k l = (length l.flows ≡ 19) × Filled (pos 0) l.k (λ j. sided l.side (pos (get_or l.row j 0))) l.flows
