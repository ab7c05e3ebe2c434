-- `midpoints` meets its contract: the paper's list.
use mathlib.Core.Path.{refl}
use Rattle.paper.specs.Ladder.{midpoints}
use Rattle.ladder.proofs.midpoints.Goals as goal

pub returns : goal.returns
unfolding midpoints
returns c = refl
