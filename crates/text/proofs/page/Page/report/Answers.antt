-- The lines one after the other. A C line is 156 bytes at most, S 134, M 68 and V 9.
use Prim.Native.Nat.{◌*◌}
use native.Mathlib.Omega.{arith}
use borrow.Author.Rules.{rules}
use lib.IntN.{pos}
use lib.ListN.{get_or}
use mir.Syntax.{w64}
use Rattle.std.proofs.lemmas.List.{map-id}
use Rattle.laws.specs.Lists.{tabulate_from}
use Rattle.laws.proofs.Widths.{back}
use Rattle.paper.specs.Records.{currencies}
use Rattle.paper.specs.Verdict.{measure_at, verdict_at}
use Rattle.paper.specs.Program.{report_text}
use Rattle.arrays.specs.Masks.{curved_by}
use Rattle.text.proofs.Pages.{adds_then}
use Rattle.text.proofs.Figures.{side_by_side, line-lengths, report-length}
use Rattle.text.proofs.page.Page.report.Goals as goal

pub line-requires : goal.line-requires
line-requires c =
    let lengths = line-lengths (curved_by c.args.curved) c.args.report.now (omega arith) in
    omega arith

pub line-requires-2 : goal.line-requires-2
line-requires-2 c =
    let lengths = line-lengths (curved_by c.args.curved) c.args.report.now (omega arith) in
    let sums = rw map-id at c.line.ensures in
    omega arith

pub verdict-requires : goal.verdict-requires
verdict-requires c =
    let lengths = line-lengths (curved_by c.args.curved) c.args.report.now (omega arith) in
    let sums = rw map-id at c.line.ensures in
    let measures = rw map-id at c.line-2.ensures in
    omega arith

pub returns : goal.returns
unfolding report_text tabulate_from
returns c =
    let report = c.args.report.now in
    let sums = rw (map-id, side_by_side report (6 * currencies) 6 (omega arith)) at c.line.ensures in
    let measures = rw (map-id, side_by_side report (measure_at currencies) 3 (omega arith)) at c.line-2.ensures in
    let word = rw (back w64 (get_or report (verdict_at currencies) (pos 0)) (search rules)) at c.verdict.ensures in
    let whole = adds_then (adds_then (adds_then c.all_changes.ensures sums) measures) word in
    (whole, report-length (curved_by c.args.curved) report)
