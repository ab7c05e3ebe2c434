-- The library's digits are the paper's.
use mir.Facts.{to_z-of_z}
use Rattle.text.proofs.Decimals.{as_printed-signed}
use Rattle.text.proofs.page.Page.integer.Goals as goal

pub returns : goal.returns
returns c =
    rw (← as_printed-signed c.args.z c.ranges.z.sfits, ← rw (to_z-of_z c.ranges.z) at c.format.ensures.text) c.text.ensures
