use mathlib.Core.Path.{sym, ◌∙◌}
use native.Mathlib.Omega.{arith}
use mir.Facts.{to_z-of_z}
use mir.Syntax.{w64}
use Rattle.laws.proofs.Widths.{sfits-abs}
use Rattle.posting.proofs.Sides.{sided-plus, sided-minus, minus-fits}
use Rattle.posting.proofs.cells.sided.Goals as goal

pub returns-then-side-eq1 : goal.returns-then-side-eq1
returns-then-side-eq1 c = sym (sided-plus c.args.side _ c.if-side-eq1.true)

pub overflow_sub-result : goal.overflow_sub-result
overflow_sub-result c =
    let z = c.args.value.0 in
    rw (to_z-of_z {w = w64} (sfits-abs z (omega (arith, c.requires)))) (minus-fits z c.requires)

pub returns : goal.returns
returns c =
    let z = c.args.value.0 in
    rw (to_z-of_z {w = w64} (sfits-abs z (omega (arith, c.requires)))) (to_z-of_z (minus-fits z c.requires) ∙ sym (sided-minus c.args.side z c.if-side-eq1.false))
