-- What the loop of `withdrawn_column` keeps.
use Rattle.behaviour.specs.Columns.{DepositReached}
use Rattle.behaviour.proofs.Columns.{passed}
use Rattle.behaviour.proofs.term_deposit.withdrawn_column.Given as goal

abbrev pub invariant-loop-i : goal.invariant-loop-i
invariant-loop-i l = DepositReached l.rates l.body (passed l.k l.i) l.rows l.early
