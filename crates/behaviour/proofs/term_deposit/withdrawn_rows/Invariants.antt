-- What the loop of `withdrawn_rows` keeps.
use Rattle.behaviour.specs.Columns.{DepositReached}
use Rattle.behaviour.proofs.term_deposit.withdrawn_rows.Given as goal

abbrev pub invariant-loop-k : goal.invariant-loop-k
invariant-loop-k l = DepositReached l.rates l.body (λ _. l.k) l.rows l.early
