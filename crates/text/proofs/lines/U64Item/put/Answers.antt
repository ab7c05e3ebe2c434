-- A space, then the digits.
use Rattle.text.proofs.Pages.{adds_then}
use Rattle.text.proofs.Items.{item-natural}
use Rattle.text.proofs.lines.U64Item.put.Goals as goal

pub returns : goal.returns
returns c = rw item-natural (adds_then c.byte.ensures c.natural.ensures)
