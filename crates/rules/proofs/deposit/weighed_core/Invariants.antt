-- What the loop of `weighed_core` keeps.
use Rattle.rules.proofs.DepositLaws.{Weighed}
use Rattle.rules.proofs.deposit.weighed_core.Given as goal

abbrev pub invariant-loop-k : goal.invariant-loop-k
invariant-loop-k l = Weighed l.body l.k l.weighed
