-- `cannot_widen`: 18 is on the list and on the room.
use Rattle.stored.proofs.Widening.{other-length, by-the-room}
use Rattle.stored.proofs.cannot_widen.Goals as goal

pub returns-then-stored-ne-STORED_FIGURES : goal.returns-then-stored-ne-STORED_FIGURES
returns-then-stored-ne-STORED_FIGURES c = other-length c.args.stored c.args.report c.if-stored-ne-STORED_FIGURES.true

pub returns-else-stored-ne-STORED_FIGURES : goal.returns-else-stored-ne-STORED_FIGURES
returns-else-stored-ne-STORED_FIGURES c = by-the-room c.args.stored c.args.report c.if-stored-ne-STORED_FIGURES.false
