-- `in_thousands`: what was rounded, on the scale of money.
use mathlib.Core.Path.{◌∙◌}
use mir.Facts.{to_z-of_z}
use mir.Syntax.{w64}
use Rattle.laws.proofs.Widths.{back}
use Rattle.change.proofs.in_thousands.Goals as goal

pub returns : goal.returns
returns c = back w64 c.rounded.result c.rounded.type_inv ∙ (rw (to_z-of_z c.ranges.billionths) at c.rounded.ensures)
