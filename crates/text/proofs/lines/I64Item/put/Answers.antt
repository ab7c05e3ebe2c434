-- A space, then the number.
use mir.Facts.{to_z-of_z}
use Rattle.text.proofs.Pages.{adds_then}
use Rattle.text.proofs.Items.{item-signed}
use Rattle.text.proofs.lines.I64Item.put.Goals as goal

pub returns : goal.returns
returns c = rw item-signed (adds_then c.byte.ensures (rw (to_z-of_z c.ranges.self) at c.integer.ensures))
