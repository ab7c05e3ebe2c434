-- `write_report` meets its contract: what is copied into the three parts of the room is the report.
use Prim.Native.Nat.{ℕ}
use mathlib.Core.Path.{ap, ◌∙◌}
use native.Mathlib.Omega.{arith}
use Rattle.paper.specs.Records.{currencies}
use Rattle.paper.specs.Verdict.{report_from}
use Rattle.arrays.specs.Rooms.{listed}
use Rattle.verdict.proofs.Figures.{measure-most, worst-most}
use Rattle.valuation.proofs.ReportParts.{report-written}
use Rattle.valuation.proofs.report.write_report.Goals as goal

pub closing-requires-clause-sum_le_most_of_asum : goal.closing-requires-clause-sum_le_most_of_asum
closing-requires-clause-sum_le_most_of_asum c =
    let worst = c.greatest_sum-worst.ensures in (
      omega (arith, worst.sum_value, measure-most c.requires.figures.0),
      omega (arith, worst.scenario_value, worst-most (listed c.args.changes.now)),
      omega (arith, c.greatest_sum.ensures.sum_value, measure-most c.requires.figures.1),
    )

pub returns : goal.returns
returns c =
    let worst = c.greatest_sum-worst in
    report-written c.args.report.now c.args.changes.now c.greatest_sum.result.sum.0 c.args.tier1.0 worst.result.sum.0 worst.result.scenario
    c.requires.tier1_bound.1 (omega arith)
    c.copy_from_slice.ensures.after
    (c.copy_from_slice-2.ensures.after ∙ c.six_sums.ensures)
    (c.copy_from_slice-3.ensures.after ∙ c.closing.ensures)
    worst.ensures.sum_value worst.ensures.scenario_value
    ∙ ap (λ (u : ℕ). report_from currencies (listed c.args.changes.now) u c.args.tier1.0) c.greatest_sum.ensures.sum_value
