-- `decode_curve` meets its contract: 12, rates and shocks as laid out, then the shocked rates.
use mathlib.Core.Path.{refl}
use native.Mathlib.Omega.{arith}
use lib.IntN.{pos}
use lib.ListN.{replicate}
use Rattle.paper.specs.Refusals.{◌>>=◌, ◌>>◌, unless, checked_as}
use Rattle.paper.specs.TurnedDown.{second_curve}
use Rattle.paper.specs.Decode.{decode_curve}
use Rattle.paper.proofs.Checks.{Anything, known_of, field-known}
use Rattle.paper.proofs.Ranges.{shock-range}
use Rattle.paper.specs.declared.Shocks.{Shocks}
use Rattle.curve.specs.Shocked.{Sized}
use Rattle.fields.specs.Answers.{as_it_is, no_value}
use Rattle.fields.proofs.Reading.{handed, value, bad}
use Rattle.fields.proofs.RateLaws.{Rated, rates-all}
use Rattle.record.proofs.CurveLaws.{drawn-read}
use Rattle.record.proofs.curves.decode_curve.Goals as goal
use Rattle.record.proofs.curves.decode_curve.Goals.{In_ok-rates_at, In_ok-long}

rated : (c : In_ok-rates_at) → Rated c.args.body.bytes.now 1 c.rates_at.new.rates
rated c = rates-all _ _ (replicate 19 (pos 0)) refl (c.in_ok-rates_at.ensures.value, c.rates_at.ensures.rates_after)

pub returns-then-curved : goal.returns-then-curved
unfolding decode_curve second_curve unless ◌>>=◌ ◌>>◌ checked_as
returns-then-curved c = rw (c.record_fault.ensures, c.args.body.known.first, c.if-curved.true)

pub returns-in_err-rates_at : goal.returns-in_err-rates_at
unfolding decode_curve second_curve unless ◌>>=◌ ◌>>◌ checked_as
returns-in_err-rates_at c = rw (handed _ c.from_residual.ensures.1, c.args.body.known.first, c.if-curved.false, bad no_value c.in_err-rates_at.ensures.value)

pub returns-in_err-parallel : goal.returns-in_err-parallel
unfolding decode_curve second_curve unless ◌>>=◌ ◌>>◌ checked_as
returns-in_err-parallel c =
    let rates = rated (goal.at.returns-in_err-parallel c).In_ok-rates_at in
    rw (handed _ c.from_residual-in_err-parallel.ensures.1, c.args.body.known.first, c.if-curved.false, rates.list, bad as_it_is c.in_err-parallel.ensures)

pub returns-in_err-short : goal.returns-in_err-short
unfolding decode_curve second_curve unless ◌>>=◌ ◌>>◌ checked_as
returns-in_err-short c =
    let rates = rated (goal.at.returns-in_err-short c).In_ok-rates_at in
    rw (handed _ c.from_residual-in_err-short.ensures.1, c.args.body.known.first, c.if-curved.false, rates.list, value c.in_ok-parallel.ensures, bad as_it_is c.in_err-short.ensures)

pub returns-in_err-long : goal.returns-in_err-long
unfolding decode_curve second_curve unless ◌>>=◌ ◌>>◌ checked_as
returns-in_err-long c =
    let rates = rated (goal.at.returns-in_err-long c).In_ok-rates_at in
    rw (handed _ c.from_residual-in_err-long.ensures.1, c.args.body.known.first, c.if-curved.false, rates.list, value c.in_ok-parallel.ensures, value c.in_ok-short.ensures, bad as_it_is c.in_err-long.ensures)

abbrev shocks : In_ok-long → Shocks
shocks c = record { parallel = c.in_ok-parallel.parallel; short = c.in_ok-short.short; long = c.in_ok-long.long }

sized : (c : In_ok-long) → Sized (shocks c)
sized c =
    record {
      parallel-most = (known_of (field-known {R = Anything} shock-range _ _ _ tt) _ (value c.in_ok-parallel.ensures)).to;
      short-most = (known_of (field-known {R = Anything} shock-range _ _ _ tt) _ (value c.in_ok-short.ensures)).to;
      long-most = (known_of (field-known {R = Anything} shock-range _ _ _ tt) _ (value c.in_ok-long.ensures)).to;
    }

pub drawn-requires : goal.drawn-requires
drawn-requires c =
    record { listed = (rated (goal.at.drawn-requires c).In_ok-rates_at).ranged; sized = (sized (goal.at.drawn-requires c).In_ok-long, omega arith) }

pub returns : goal.returns
unfolding decode_curve second_curve unless ◌>>=◌ ◌>>◌
returns c =
    let g = goal.at.returns c in
    let rates = rated g.In_ok-rates_at in
    rw (
      drawn-read _ 1 _ (shocks g.In_ok-long) rates.holds c.drawn.ensures,
      c.args.body.known.first,
      c.if-curved.false,
      rates.list,
      value c.in_ok-parallel.ensures,
      value c.in_ok-short.ensures,
      value c.in_ok-long.ensures,
    )
