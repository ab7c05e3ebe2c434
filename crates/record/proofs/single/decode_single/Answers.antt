-- `decode_single` meets its contract, field by field: those before a field are read, and it is refused or read.
use Rattle.paper.specs.Refusals.{◌>>=◌, checked_as}
use Rattle.paper.specs.Decode.{decode_single}
use Rattle.fields.specs.Answers.{as_it_is, thousands}
use Rattle.fields.proofs.Reading.{handed, bad, amount-value, value}
use Rattle.record.proofs.single.decode_single.Goals as goal

pub returns-in_err-side : goal.returns-in_err-side
unfolding decode_single ◌>>=◌ checked_as
returns-in_err-side c = rw (handed _ c.from_residual.ensures.1, c.args.body.known.first, bad as_it_is c.in_err-side.ensures)

pub returns-in_err-months : goal.returns-in_err-months
unfolding decode_single ◌>>=◌ checked_as
returns-in_err-months c = rw (handed _ c.from_residual-in_err-months.ensures.1, c.args.body.known.first, value c.in_ok-side.ensures, bad as_it_is c.in_err-months.ensures)

pub returns-in_err-days : goal.returns-in_err-days
unfolding decode_single ◌>>=◌ checked_as
returns-in_err-days c = rw (handed _ c.from_residual-in_err-days.ensures.1, c.args.body.known.first, value c.in_ok-side.ensures, value c.in_ok-months.ensures, bad as_it_is c.in_err-days.ensures)

pub returns-in_err-amount : goal.returns-in_err-amount
unfolding decode_single ◌>>=◌ checked_as
returns-in_err-amount c = rw (handed _ c.from_residual-in_err-amount.ensures.1, c.args.body.known.first, value c.in_ok-side.ensures, value c.in_ok-months.ensures, value c.in_ok-days.ensures, bad thousands c.in_err-amount.ensures)

pub returns : goal.returns
unfolding decode_single ◌>>=◌ checked_as
returns c = rw (c.args.body.known.first, value c.in_ok-side.ensures, value c.in_ok-months.ensures, value c.in_ok-days.ensures, amount-value c.in_ok-amount.ensures)
