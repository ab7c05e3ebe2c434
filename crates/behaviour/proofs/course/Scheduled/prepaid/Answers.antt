use native.Mathlib.Omega.{arith}
use Rattle.paper.specs.Behaviour.{prepaid}
use Rattle.behaviour.proofs.course.Scheduled.prepaid.Goals as goal

pub returns : goal.returns
unfolding prepaid
returns c = (omega (arith, c.paid.ensures.0), omega (arith, c.paid.ensures.0, c.paid.ensures.1))
