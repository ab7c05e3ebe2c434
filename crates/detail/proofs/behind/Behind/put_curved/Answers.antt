-- With a curve the lines of the currency; no line without one.
use mathlib.Core.Path.{sym, ◌∙◌}
use native.Mathlib.Omega.{arith}
use Rattle.text.proofs.Pages.{adds_none}
use Rattle.detail.proofs.behind.Behind.put_curved.Goals as goal

pub put_currency-requires-clause-le_currency : goal.put_currency-requires-clause-le_currency
put_currency-requires-clause-le_currency c =
    (omega arith, omega arith, sym c.has_curve.ensures ∙ c.if-has_curve.true)

pub returns-then-has_curve : goal.returns-then-has_curve
returns-then-has_curve c =
    rw (sym c.has_curve.ensures ∙ c.if-has_curve.true) c.put_currency.ensures

pub returns-else-has_curve : goal.returns-else-has_curve
returns-else-has_curve c =
    rw (sym c.has_curve.ensures ∙ c.if-has_curve.false) (adds_none _)
