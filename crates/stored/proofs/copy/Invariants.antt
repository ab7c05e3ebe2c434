-- What the loop of `copy` keeps.
use lib.IntN.{pos}
use lib.ListN.{get_or}
use Rattle.laws.proofs.Filling.{Filled}
use Rattle.stored.proofs.copy.Given as goal

abbrev pub invariant-loop-k : goal.invariant-loop-k
invariant-loop-k l = Filled (pos 0) l.k (λ k. get_or l.numbers k (pos 0)) l.cells
