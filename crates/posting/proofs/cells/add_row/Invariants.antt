-- What the loop of `add_row` keeps.
use Prim.Native.Nat.{◌*◌, ◌%◌}
use lib.IntN.{pos, ◌+ℤ◌}
use lib.ListN.{get_or}
use Rattle.paper.specs.Flow.{sided}
use Rattle.posting.proofs.Loops.{Joining}
use Rattle.posting.proofs.cells.add_row.Given as goal

abbrev pub invariant-loop-i : goal.invariant-loop-i
invariant-loop-i l =
    Joining ◌+ℤ◌ (pos 0) (19 * l.i) (λ j. sided l.side (pos (get_or l.row (j % 19) 0))) l.initial.section l.section
