-- `six_sums` meets its contract. They are set down from the front.
use Prim.Native.Nat.{◌+◌}
use mathlib.Core.Path.{ap, ◌∙◌}
use native.Mathlib.Omega.{arith}
use lib.IntN.{pos}
use mir.Syntax.{w64}
use mir.Facts.{to_z_pos}
use borrow.Author.Rules.{rules}
use Rattle.laws.proofs.Filling.{filled_next, filled-from}
use Rattle.paper.specs.Flow.{shocked}
use Rattle.verdict.proofs.Figures.{scenario-sum-most}
use Rattle.valuation.proofs.report.six_sums.Goals as goal

pub overflow_cast-sums : goal.overflow_cast-sums
overflow_cast-sums c =
    record { sfits = omega (arith, c.scenario_sum.ensures, scenario-sum-most c.requires (c.loop-i.i + 1)) }

pub loop-i-preserved : goal.loop-i-preserved
loop-i-preserved c =
    let at = c.loop-i in
    let is = to_z_pos w64 {n = c.scenario_sum.result.0} (overflow_cast-sums c).sfits ∙ ap pos c.scenario_sum.ensures in
    (search rules, filled_next (pos 0) _ at.sums at.i _ at.invariant.1 is (search rules))

pub returns : goal.returns
returns c = let at = c.loop-i in filled-from (pos 0) _ 1 at.sums shocked at.invariant.0 (λ j o. at.invariant.1 j (omega arith))
