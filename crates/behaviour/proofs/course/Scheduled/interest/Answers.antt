use native.Mathlib.Nat.{mul-le-mul_left, div-le_of_le-mul}
use native.Mathlib.Omega.{arith}
use borrow.Author.Tests.{eq-eqb, ne_eqb}
use borrow.Author.Rules.{rules}
use Rattle.paper.specs.Behaviour.{interest}
use Rattle.behaviour.proofs.course.Scheduled.interest.Goals as goal

pub returns-then-self-eq0 : goal.returns-then-self-eq0
unfolding interest
returns-then-self-eq0 c = (rw (eq-eqb c.args.self.charge.0 0 c.if-self-eq0.true), search rules)

pub returns : goal.returns
unfolding interest
returns c = (
  rw (ne_eqb c.args.self.charge.0 0 c.if-self-eq0.false),
  div-le_of_le-mul c.args.self.remaining.0 (omega (arith, mul-le-mul_left c.args.self.charge.0 c.requires)),
)
