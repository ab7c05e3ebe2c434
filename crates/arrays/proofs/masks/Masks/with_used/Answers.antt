-- `with_used`: the currency's digit joins this mask.
use Rattle.arrays.specs.Masks.{marked_by}
use Rattle.arrays.proofs.masks.Masks.with_used.Goals as goal

pub returns : goal.returns
unfolding marked_by
returns c = rw c.with_currency-used.ensures
