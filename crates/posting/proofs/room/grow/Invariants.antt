-- What the loop of `grow` keeps.
use Prim.Native.Nat.{◌+◌}
use mathlib.Core.Path.{◌≡◌}
use lib.ListN.{length, get_or}
use Rattle.posting.proofs.Loops.{Joining}
use Rattle.posting.proofs.room.grow.Given as goal

abbrev pub invariant-loop-i : goal.invariant-loop-i
invariant-loop-i l =
    (length l.sums ≡ length l.initial.sums) × Joining ◌+◌ 0 l.i (λ j. get_or l.more j 0) l.initial.sums l.sums
