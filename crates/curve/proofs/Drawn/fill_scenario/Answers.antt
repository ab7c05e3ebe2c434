-- `fill_scenario` meets its contract: the whole part is written.
use native.Mathlib.Omega.{arith}
use lib.IntN.{pos}
use Rattle.laws.proofs.Filling.{filled-all}
use Rattle.paper.specs.Ladder.{buckets}
use Rattle.curve.proofs.Drawn.fill_scenario.Goals as goal

pub returns : goal.returns
returns c = let at = c.loop-k in filled-all (pos 0) _ at.part buckets (omega arith) (λ j o. at.invariant j (omega arith))
