-- What the loop of `scenario_sums` keeps.
use mathlib.Core.Path.{◌≡◌}
use lib.ListN.{length}
use Rattle.laws.proofs.Filling.{Filled}
use Rattle.posting.specs.Parts.{row_sum}
use Rattle.posting.proofs.flows.scenario_sums.Given as goal

abbrev pub invariant-loop-i : goal.invariant-loop-i
invariant-loop-i l = (length l.more ≡ 7) × Filled 0 l.i (row_sum l.sums l.which) l.more
