-- The report's lines and what stands behind them, or the refusal's line.
use Prim.Native.Nat.{ℕ}
use mathlib.Core.List.{List, ◌++◌}
use mathlib.Core.Path.{refl, ap, ◌∙◌}
use native.Mathlib.Omega.{arith}
use borrow.Author.Rules.{rules, part_to_end}
use lib.IntN.{pos}
use lib.ListN.{length-append, get_or, drop}
use mir.Syntax.{w64}
use Rattle.laws.proofs.Widths.{back}
use Rattle.paper.specs.Records.{currencies}
use Rattle.paper.specs.Ledger.{totals}
use Rattle.paper.specs.Change.{change}
use Rattle.paper.specs.Verdict.{measure, measure_at}
use Rattle.paper.specs.Program.{capital_in, report_text}
use Rattle.arrays.specs.Masks.{curved_by}
use Rattle.text.proofs.Pages.{adds_then, on-new-page}
use Rattle.printing.proofs.Printing.{stands-as, prints-report, prints-refusal}
use Rattle.detailing.specs.Detailed.{behind_kept, longest_detail}
use Rattle.detailing.proofs.Detailing.{reports, refusal-detailed, report-detailed}
use Rattle.detailing.proofs.print_detail.Goals as goal

pub overflow_cast-standing : goal.overflow_cast-standing
overflow_cast-standing c =
    let r = reports _ _ c.answer.ensures _ c.in-Ok.is in
    rw (back w64 (get_or c.answer.new.report (measure_at currencies) (pos 0)) (search rules), r.measure-is) (tt, record { fits = omega (arith, r.measure-fits) })

pub capital_in-requires : goal.capital_in-requires
capital_in-requires c =
    (reports _ _ c.answer.ensures _ c.in-Ok.is).input-is.has-capital

pub slice_bounds-put_behind-count : goal.slice_bounds-put_behind-count
slice_bounds-put_behind-count c =
    (reports _ _ c.answer.ensures _ c.in-Ok.is).input-is.has-capital

pub slice_bounds-put_behind-start : goal.slice_bounds-put_behind-start
slice_bounds-put_behind-start c =
    let long = (reports _ _ c.answer.ensures _ c.in-Ok.is).input-is.has-capital in
    search rules

pub invariant_of-standing : goal.invariant_of-standing
invariant_of-standing c =
    let r = reports _ _ c.answer.ensures _ c.in-Ok.is in
    rw (back w64 (get_or c.answer.new.report (measure_at currencies) (pos 0)) (search rules), r.measure-is, c.capital_in.ensures)
    record { in_range = (r.measure-fits, r.input-is.capital-fits.0, r.input-is.capital-fits.1) }

pub put_behind-requires-clause-book_len_bound : goal.put_behind-requires-clause-book_len_bound
put_behind-requires-clause-book_len_bound c =
    rw (part_to_end c.args.input.now 8) (reports _ _ c.answer.ensures _ c.in-Ok.is).input-is.book-fits

pub returns-in-Err : goal.returns-in-Err
returns-in-Err c =
    let answered = c.answer.ensures in
    let refused = c.in-Err.is in
    let w = stands-as _ (prints-refusal _ _ answered refl _ refused ∙ refusal-detailed _ _ answered _ refused) (omega arith) (c.print_refusal.ensures.value, c.print_refusal.ensures.out_after) in
    record { value = w.0; out_after = w.1 }

pub returns-in-Ok : goal.returns-in-Ok
returns-in-Ok c =
    let input = c.args.input.now in
    let answered = c.answer.ensures in
    let reported = c.in-Ok.is in
    let r = reports input _ answered _ reported in
    let is = back w64 (get_or c.answer.new.report (measure_at currencies) (pos 0)) (search rules) in
    let behind = (rw (part_to_end input 8, is, r.measure-is, c.capital_in.ensures) at (c.put_behind.ensures.adds r.kept)) r.input-is.records in
    let lines = report_text currencies (curved_by c.in-Ok.curves) c.answer.new.report in
    let more = behind_kept (drop 8 input) r.kept (measure currencies (change (totals r.kept))) (capital_in input) in
    let all = ap (λ (l : List ℕ). l ++ more) (prints-report _ input answered refl _ reported refl) ∙ report-detailed input r in
    let whole = on-new-page {most = longest_detail} (adds_then c.report.ensures.0 behind.0) c.new-page.ensures.nothing_written c.new-page.ensures.as_it_was c.written.ensures (omega (arith, length-append lines more, c.report.ensures.1, behind.1)) (search rules) in
    let w = stands-as c.args.out.now all (omega arith) whole in
    record { value = w.0; out_after = w.1 }
