-- `copy`: filled from the front.
use native.Mathlib.Omega.{arith}
use lib.IntN.{pos}
use lib.ListN.{length}
use Rattle.laws.proofs.Filling.{filled_copy}
use Rattle.stored.proofs.copy.Goals as goal

pub returns : goal.returns
returns c = let at = c.loop-k in filled_copy (pos 0) c.args.numbers.now at.cells (length c.args.cells.now) c.requires (omega arith) (λ k o. at.invariant k (omega arith))
