-- What the loop of `add_rows` keeps.
use Prim.Native.Nat.{◌*◌}
use lib.IntN.{pos, ◌+ℤ◌}
use Rattle.paper.specs.Flow.{sided}
use Rattle.posting.specs.Parts.{row_flow}
use Rattle.posting.proofs.Loops.{Joining}
use Rattle.posting.proofs.cells.add_rows.Given as goal

abbrev pub invariant-loop-i : goal.invariant-loop-i
invariant-loop-i l =
    Joining ◌+ℤ◌ (pos 0) (19 * l.i) (λ j. sided l.side (pos (row_flow l.rows l.which j))) l.initial.section l.section
