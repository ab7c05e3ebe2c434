-- `widths` meets its contract: the paper's list.
use mathlib.Core.Path.{refl}
use Rattle.paper.specs.Ladder.{widths}
use Rattle.ladder.proofs.widths.Goals as goal

pub returns : goal.returns
unfolding widths
returns c = refl
