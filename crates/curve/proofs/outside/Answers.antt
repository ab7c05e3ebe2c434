-- `outside` meets its contract: not within the closed range.
use mathlib.Core.Bool.{not}
use mathlib.Core.Path.{ap, ◌∙◌}
use native.Mathlib.Omega.{arith}
use Rattle.paper.specs.TurnedDown.{bad_rate}
use Rattle.curve.proofs.outside.Goals as goal

pub returns : goal.returns
unfolding bad_rate
returns c = ap not c.contains.ensures.value ∙ rw (c.new.ensures.start, c.new.ensures.end, c.new.ensures.exhausted) (grind arith)
