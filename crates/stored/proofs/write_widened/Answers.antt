-- `write_widened`: the changes, zeros, the last ten, each in its part of the room.
use Rattle.stored.proofs.Widening.{parts-widened}
use Rattle.stored.proofs.write_widened.Goals as goal

pub returns : goal.returns
returns c =
    parts-widened c.args.stored.now c.args.report.now c.requires.0 c.requires.1
    c.copy.ensures
    (c.fill.ensures.after (λ y e. e))
    c.copy-2.ensures
