-- `closing` meets its contract: four numbers as the machine holds them.
use mathlib.Core.Path.{◌≡◌, refl, ap, ◌∙◌}
use native.Mathlib.Omega.{arith}
use lib.IntN.{pos}
use mir.Syntax.{w64}
use mir.Val.{to_z, of_z}
use mir.Facts.{to_z_pos}
use Rattle.laws.proofs.Widths.{back}
use Rattle.paper.specs.declared.Verdict.{Verdict}
use Rattle.paper.specs.Verdict.{verdict, verdict_number}
use Rattle.valuation.proofs.report.closing.Goals as goal

pub returns : goal.returns
returns c =
    let worst = c.args.worst in
    let sum-is = to_z_pos w64 {n = worst.sum.0} (omega arith) in
    let scenario-is = to_z_pos w64 {n = worst.scenario} (omega arith) in
    let tolerance-is = to_z_pos w64 {n = c.args.tolerance.0} (omega arith) in
    let verdict-is : to_z w64 (of_z w64 c.from.result) ≡ pos (verdict_number (verdict worst.sum.0 c.args.tolerance.0 c.args.tier1.0)) =
    back w64 c.from.result c.from.type_inv ∙ c.from.ensures ∙ ap (λ (v : Verdict). pos (verdict_number v)) c.verdict_of-verdict.ensures in
    rw (sum-is, scenario-is, tolerance-is, verdict-is) refl
