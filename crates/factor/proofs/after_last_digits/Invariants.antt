-- What the loop of `after_last_digits` keeps.
use Prim.Native.Nat.{◌+◌, ◌-◌, ◌/◌, ◌^◌}
use Rattle.factor.proofs.Digits.{Reading}
use Rattle.factor.proofs.after_last_digits.Given as goal

abbrev pub invariant-loop-weight : goal.invariant-loop-weight
invariant-loop-weight l =
    Reading l.start l.exponent l.product l.rest (10 ^ (11 - (6 + l.weight-index)) / 10) (6 + l.weight-index)
