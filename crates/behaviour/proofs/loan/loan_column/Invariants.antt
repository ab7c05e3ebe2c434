-- What the loop of `loan_column` keeps.
use mathlib.Core.Path.{◌≡◌}
use Rattle.behaviour.specs.Columns.{LoanReached, rates, balances, sums}
use Rattle.behaviour.proofs.Columns.{passed}
use Rattle.behaviour.proofs.loan.loan_column.Given as goal

abbrev pub invariant-loop-i : goal.invariant-loop-i
invariant-loop-i l =
    LoanReached (rates l.initial.courses) l.body (passed l.k l.i) (balances l.courses) l.rows (sums l.courses) × (rates l.courses ≡ rates l.initial.courses)
