-- What the loop of `interest_alone` keeps.
use Rattle.rules.proofs.LoanLaws.{Passed}
use Rattle.rules.proofs.loan.interest_alone.Given as goal

abbrev pub invariant-loop-k : goal.invariant-loop-k
invariant-loop-k l = Passed l.body l.k l.scheduled.0
