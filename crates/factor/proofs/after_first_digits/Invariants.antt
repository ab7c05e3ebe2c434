-- What the loop of `after_first_digits` keeps.
use Rattle.factor.proofs.Digits.{Reading}
use Rattle.factor.proofs.after_first_digits.Given as goal

abbrev pub invariant-loop-row : goal.invariant-loop-row
invariant-loop-row l = Reading l.start l.exponent l.product l.rest l.weight l.row-index
