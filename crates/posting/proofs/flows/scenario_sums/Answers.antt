-- The scenarios passed have the sums of their rows.
use native.Mathlib.Omega.{arith}
use Rattle.laws.proofs.Filling.{filled-all}
use Rattle.paper.specs.Flow.{scenarios}
use Rattle.posting.proofs.flows.scenario_sums.Goals as goal

pub returns : goal.returns
returns c =
    let at = c.loop-i in
    filled-all 0 _ at.more scenarios at.invariant.0 (λ i l. at.invariant.1 i (omega arith))
