-- The report's lines, or the refusal's.
use mathlib.Core.Path.{refl}
use native.Mathlib.Omega.{arith}
use Rattle.printing.proofs.Printing.{stands-as, prints-report, prints-refusal}
use Rattle.printing.proofs.print_answer.Goals as goal

pub returns-in-Ok : goal.returns-in-Ok
returns-in-Ok c =
    let answered = c.answer.ensures in
    let w = stands-as _ (prints-report _ _ answered refl _ c.in-Ok.is refl) (omega arith) (c.write_report.ensures.value, c.write_report.ensures.out_after) in record { value = w.0; out_after = w.1 }

pub returns-in-Err : goal.returns-in-Err
returns-in-Err c =
    let answered = c.answer.ensures in
    let w = stands-as _ (prints-refusal _ _ answered refl _ c.in-Err.is) (omega arith) (c.print_refusal.ensures.value, c.print_refusal.ensures.out_after) in record { value = w.0; out_after = w.1 }
