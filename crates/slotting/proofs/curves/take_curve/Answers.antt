-- `take_curve`: what its decoder answers, entered.
use native.Mathlib.Omega.{arith}
use Rattle.paper.specs.Records.{currencies}
use Rattle.paper.proofs.KindTable.{curve-kind}
use Rattle.paper.proofs.Checks.{forget}
use Rattle.slotting.proofs.Rates.{typed-good, enterable, taken_as}
use Rattle.slotting.proofs.curves.take_curve.Goals as goal

pub enter_curve-requires : goal.enter_curve-requires
enter_curve-requires c =
    record { from_in_bounds = omega (arith, c.args.body.known.long); rates_len = c.requires.rate_parts.long; enterable = enterable _ 1 c.decode_curve.ensures (forget (curve-kind currencies _ _).sound) (typed-good _ _) c.requires.rate_parts }

pub returns : goal.returns
returns c = taken_as c.decode_curve.ensures c.enter_curve.ensures
