-- What the loop of `net_size` keeps.
use mathlib.Core.Path.{◌≡◌}
use lib.IntN.{nat_abs}
use Rattle.laws.specs.Sums.{sum}
use Rattle.arrays.specs.Rooms.{cell_by}
use Rattle.change.proofs.net_size.Given as goal

abbrev pub invariant-loop-k : goal.invariant-loop-k
invariant-loop-k l = l.size.0 ≡ sum (λ j. nat_abs (cell_by l.cells 1 l.scenario j)) l.k
