-- What the loop of `post` keeps.
use Prim.Native.Nat.{◌*◌}
use lib.IntN.{pos, ◌+ℤ◌}
use Rattle.posting.specs.Parts.{column}
use Rattle.posting.proofs.Loops.{Joining}
use Rattle.posting.proofs.cells.post.Given as goal

abbrev pub invariant-loop-i : goal.invariant-loop-i
invariant-loop-i l =
    Joining ◌+ℤ◌ (pos 0) (19 * l.i) (column l.bucket l.amount.0) l.initial.section l.section
