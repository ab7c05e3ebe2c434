use mathlib.Core.Path.{refl}
use native.Mathlib.Nat.{mul-le-mul}
use native.Mathlib.Omega.{arith}
use Rattle.paper.specs.Behaviour.{moved}
use Rattle.paper.proofs.Deposits.{moved-at-most}
use Rattle.behaviour.proofs.term_deposit.moved.Goals as goal

pub overflow_mul-result : goal.overflow_mul-result
overflow_mul-result c = record { fits = omega (arith, mul-le-mul c.requires.1 c.requires.0) }

pub returns : goal.returns
unfolding moved
returns c = (refl, moved-at-most c.args.rate c.args.amount.0 c.requires.0)
