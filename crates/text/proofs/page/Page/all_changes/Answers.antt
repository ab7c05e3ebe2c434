-- The lines of the currencies before this one have been written.
use Prim.Native.Nat.{◌-◌}
use mathlib.Core.Path.{◌≡◌}
use native.Mathlib.Omega.{arith}
use Rattle.paper.specs.Records.{currencies}
use Rattle.paper.specs.Program.{changes_line, curved_lines}
use Rattle.arrays.specs.Masks.{curved_by}
use Rattle.text.proofs.Pages.{adds_none, adds_then}
use Rattle.text.proofs.Figures.{changes-length}
use Rattle.text.proofs.CurvedLines.{lines_more, lines-length}
use Rattle.text.proofs.page.Page.all_changes.Goals as goal

pub loop-currency-init : goal.loop-currency-init
unfolding curved_lines
loop-currency-init c = adds_none _

pub changes-requires-clause-has_room : goal.changes-requires-clause-has_room
changes-requires-clause-has_room c =
    let report = c.args.report.now in
    let done = c.loop-currency.currency - 1 in
    omega (arith, lines-length (curved_by c.args.curved) (changes_line report) 156 (λ n. changes-length report n) done)

pub loop-currency-preserved : goal.loop-currency-preserved
loop-currency-preserved c =
    let loop = c.loop-currency in
    rw (lines_more (curved_by c.args.curved) (changes_line c.args.report.now) loop.currency (omega arith))
    (adds_then loop.invariant c.changes.ensures)

pub returns : goal.returns
returns c =
    let loop = c.loop-currency in
    let all : loop.currency - 1 ≡ currencies = omega arith in
    rw all at loop.invariant
