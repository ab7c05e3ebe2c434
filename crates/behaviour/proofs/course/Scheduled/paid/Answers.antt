use native.Mathlib.Omega.{arith}
use Rattle.paper.specs.Behaviour.{paid}
use Rattle.behaviour.proofs.course.Scheduled.paid.Goals as goal

pub returns : goal.returns
unfolding paid
returns c = (c.min.ensures, omega arith)
