-- With a curve the line of the six changes, which stand side by side; no line without one.
use Prim.Native.Nat.{◌+◌, ◌*◌, ◌-◌}
use mathlib.Core.Path.{◌≡◌, sym, ◌∙◌}
use native.Mathlib.Omega.{arith}
use Rattle.std.proofs.lemmas.List.{map-id}
use Rattle.text.proofs.Pages.{adds_none}
use Rattle.text.proofs.Figures.{side_by_side}
use Rattle.text.proofs.page.Page.changes.Goals as goal

pub returns-then-has_curve : goal.returns-then-has_curve
returns-then-has_curve c =
    let from = 6 * (c.args.currency - 1) in
    let six : from + 6 - from ≡ 6 = omega arith in
    rw (sym c.has_curve.ensures ∙ c.if-has_curve.true)
    (rw (c.from.ensures, six, map-id, side_by_side c.args.report.now from 6 (omega arith)) at c.line.ensures)

pub returns-else-has_curve : goal.returns-else-has_curve
returns-else-has_curve c = rw (sym c.has_curve.ensures ∙ c.if-has_curve.false) (adds_none _)
