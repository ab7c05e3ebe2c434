-- Each case is taken off the front of what is left, and its bytes lie within the room.
use Rattle.std.proofs.Common.{length, ◌≡◌}
use Rattle.vectors.proofs.run_cases.Given as goal

abbrev pub invariant-loop-rest : goal.invariant-loop-rest
invariant-loop-rest g l = length l.bytes ≡ 65537

abbrev pub decreases-loop-rest : goal.decreases-loop-rest
decreases-loop-rest g l = length l.rest
