-- The number is that of the cause.
use mathlib.Core.Path.{sym}
use Rattle.printing.proofs.print_refusal.Goals as goal

pub returns : goal.returns
returns c =
    let w = c.write_refusal.ensures in
    rw (sym c.from.ensures, sym c.from-number.ensures) record { value = w.value; out_after = w.out_after }
