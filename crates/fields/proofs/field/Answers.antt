-- `field` meets its contract, whichever test was made.
use Rattle.paper.specs.Refusals.{unless}
use Rattle.paper.specs.Fields.{field}
use Rattle.std.proofs.Common.{add-one}
use Rattle.fields.proofs.field.Goals as goal

pub returns-then-good : goal.returns-then-good
unfolding field unless
returns-then-good g c = rw c.if-good.true

pub returns-else-good : goal.returns-else-good
unfolding field unless
returns-else-good g c = rw (c.if-good.false, add-one)
