-- What the loop of `amounts_at` keeps.
use Rattle.fields.proofs.AmountLaws.{Summed}
use Rattle.fields.proofs.amounts.amounts_at.Given as goal

abbrev pub invariant-loop-k : goal.invariant-loop-k
invariant-loop-k l = Summed l.body l.from l.k l.sum.0
