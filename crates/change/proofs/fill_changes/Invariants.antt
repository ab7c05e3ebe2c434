-- What the loop of `fill_changes` keeps.
use Prim.Native.Nat.{◌+◌}
use lib.IntN.{pos}
use Rattle.laws.proofs.Filling.{Filled}
use Rattle.paper.specs.Change.{change}
use Rattle.arrays.specs.Rooms.{totals_by}
use Rattle.change.proofs.fill_changes.Given as goal

abbrev pub invariant-loop-i : goal.invariant-loop-i
invariant-loop-i l = Filled (pos 0) l.i (λ j. change (totals_by l.cells l.add_ons l.rates) 1 (j + 1)) l.changes
