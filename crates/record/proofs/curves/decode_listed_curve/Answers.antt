-- `decode_listed_curve` meets its contract: 12, the listed shocks, the rates, then the shocked rates.
use mathlib.Core.Path.{refl}
use native.Mathlib.Omega.{arith}
use lib.IntN.{pos}
use lib.ListN.{replicate}
use Rattle.paper.specs.Refusals.{◌>>=◌, ◌>>◌, unless, checked_as}
use Rattle.paper.specs.TurnedDown.{second_curve}
use Rattle.paper.specs.Decode.{decode_listed_curve}
use Rattle.paper.proofs.Checks.{known_of}
use Rattle.paper.proofs.Published.{listed-known}
use Rattle.curve.specs.Shocked.{Sized}
use Rattle.fields.specs.Answers.{as_it_is, no_value}
use Rattle.fields.proofs.Reading.{handed, value, bad}
use Rattle.fields.proofs.RateLaws.{Rated, rates-all}
use Rattle.record.proofs.CurveLaws.{drawn-read}
use Rattle.record.proofs.curves.decode_listed_curve.Goals as goal
use Rattle.record.proofs.curves.decode_listed_curve.Goals.{In_ok-shocks, In_ok-rates_at}

rated : (c : In_ok-rates_at) → Rated c.args.body.bytes.now 5 c.rates_at.new.rates
rated c = rates-all _ _ (replicate 19 (pos 0)) refl (c.in_ok-rates_at.ensures.value, c.rates_at.ensures.rates_after)

sized : (c : In_ok-shocks) → Sized c.in_ok-shocks.shocks
sized c =
    let sizes = known_of (listed-known {bytes = 81} _ 1) _ (value c.in_ok-shocks.ensures) in
    record { parallel-most = omega (arith, sizes.0.1); short-most = omega (arith, sizes.1.1); long-most = omega (arith, sizes.2.1) }

pub returns-then-curved : goal.returns-then-curved
unfolding decode_listed_curve second_curve unless ◌>>=◌ ◌>>◌ checked_as
returns-then-curved c = rw (c.record_fault.ensures, c.args.body.known.first, c.if-curved.true)

pub returns-in_err-shocks : goal.returns-in_err-shocks
unfolding decode_listed_curve second_curve unless ◌>>=◌ ◌>>◌ checked_as
returns-in_err-shocks c = rw (handed _ c.from_residual.ensures.1, c.args.body.known.first, c.if-curved.false, bad as_it_is c.in_err-shocks.ensures)

pub returns-in_err-rates_at : goal.returns-in_err-rates_at
unfolding decode_listed_curve second_curve unless ◌>>=◌ ◌>>◌ checked_as
returns-in_err-rates_at c =
    rw (handed _ c.from_residual-in_err-rates_at.ensures.1, c.args.body.known.first, c.if-curved.false, value c.in_ok-shocks.ensures, bad no_value c.in_err-rates_at.ensures.value)

pub drawn-requires : goal.drawn-requires
drawn-requires c = record { listed = (rated (goal.at.drawn-requires c).In_ok-rates_at).ranged; sized = (sized (goal.at.drawn-requires c).In_ok-shocks, omega arith) }

pub returns : goal.returns
unfolding decode_listed_curve second_curve unless ◌>>=◌ ◌>>◌
returns c =
    let rates = rated (goal.at.returns c).In_ok-rates_at in
    rw (drawn-read _ 5 _ c.in_ok-shocks.shocks rates.holds c.drawn.ensures, c.args.body.known.first, c.if-curved.false, value c.in_ok-shocks.ensures, rates.list)
