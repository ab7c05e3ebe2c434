-- No such kind.
use mathlib.Core.Path.{refl}
use Rattle.paper.specs.TurnedDown.{unknown_kind}
use Rattle.paper.proofs.KindTable.{NoneOf, none-such}
use Rattle.kinds.proofs.kind.KindTryFromU8.try_from.Goals as goal

pub returns-in_default : goal.returns-in_default
unfolding unknown_kind
returns-in_default c = let none : NoneOf c.args.byte = search in (refl, rw (none-such _ none) refl)
