-- What the loop of `fill_tolerances` keeps.
use Prim.Native.Nat.{◌+◌}
use mathlib.Core.List.{[]}
use lib.IntN.{pos}
use Rattle.laws.proofs.Filling.{Filled}
use Rattle.paper.specs.Change.{tolerance}
use Rattle.arrays.specs.Rooms.{totals_by}
use Rattle.change.proofs.fill_tolerances.Given as goal

abbrev pub invariant-loop-i : goal.invariant-loop-i
invariant-loop-i l = Filled (pos 0) l.i (λ j. pos (tolerance (totals_by l.cells [] []) 1 (j + 1))) l.tolerances
