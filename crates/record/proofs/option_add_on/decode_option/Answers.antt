-- `decode_option` meets its contract, field by field: those before a field are read, and it is refused or read.
use Rattle.fields.proofs.Reading.{handed, bad, value, option-value}
use Rattle.fields.specs.Answers.{as_it_is, signed_thousands}
use Rattle.paper.specs.Refusals.{◌>>=◌, checked_as}
use Rattle.paper.specs.Fields.{each}
use Rattle.paper.specs.Decode.{decode_option}
use Rattle.record.proofs.option_add_on.decode_option.Goals as goal

pub returns-in_err-side : goal.returns-in_err-side
unfolding decode_option each ◌>>=◌ checked_as
returns-in_err-side c = rw (handed _ c.from_residual.ensures.1, c.args.body.known.first, bad as_it_is c.in_err-side.ensures)

pub returns-in_err-up : goal.returns-in_err-up
unfolding decode_option each ◌>>=◌ checked_as
returns-in_err-up c = rw (handed _ c.from_residual-in_err-up.ensures.1, c.args.body.known.first, value c.in_ok-side.ensures, bad signed_thousands c.in_err-up.ensures)

pub returns-in_err-down : goal.returns-in_err-down
unfolding decode_option each ◌>>=◌ checked_as
returns-in_err-down c = rw (handed _ c.from_residual-in_err-down.ensures.1, c.args.body.known.first, value c.in_ok-side.ensures, option-value c.in_ok-up.ensures, bad signed_thousands c.in_err-down.ensures)

pub returns-in_err-steepener : goal.returns-in_err-steepener
unfolding decode_option each ◌>>=◌ checked_as
returns-in_err-steepener c = rw (handed _ c.from_residual-in_err-steepener.ensures.1, c.args.body.known.first, value c.in_ok-side.ensures, option-value c.in_ok-up.ensures, option-value c.in_ok-down.ensures, bad signed_thousands c.in_err-steepener.ensures)

pub returns-in_err-flattener : goal.returns-in_err-flattener
unfolding decode_option each ◌>>=◌ checked_as
returns-in_err-flattener c = rw (handed _ c.from_residual-in_err-flattener.ensures.1, c.args.body.known.first, value c.in_ok-side.ensures, option-value c.in_ok-up.ensures, option-value c.in_ok-down.ensures, option-value c.in_ok-steepener.ensures, bad signed_thousands c.in_err-flattener.ensures)

pub returns-in_err-short_up : goal.returns-in_err-short_up
unfolding decode_option each ◌>>=◌ checked_as
returns-in_err-short_up c = rw (handed _ c.from_residual-in_err-short_up.ensures.1, c.args.body.known.first, value c.in_ok-side.ensures, option-value c.in_ok-up.ensures, option-value c.in_ok-down.ensures, option-value c.in_ok-steepener.ensures, option-value c.in_ok-flattener.ensures, bad signed_thousands c.in_err-short_up.ensures)

pub returns-in_err-short_down : goal.returns-in_err-short_down
unfolding decode_option each ◌>>=◌ checked_as
returns-in_err-short_down c = rw (handed _ c.from_residual-in_err-short_down.ensures.1, c.args.body.known.first, value c.in_ok-side.ensures, option-value c.in_ok-up.ensures, option-value c.in_ok-down.ensures, option-value c.in_ok-steepener.ensures, option-value c.in_ok-flattener.ensures, option-value c.in_ok-short_up.ensures, bad signed_thousands c.in_err-short_down.ensures)

pub returns : goal.returns
unfolding decode_option each ◌>>=◌ checked_as
returns c = rw (c.args.body.known.first, value c.in_ok-side.ensures, option-value c.in_ok-up.ensures, option-value c.in_ok-down.ensures, option-value c.in_ok-steepener.ensures, option-value c.in_ok-flattener.ensures, option-value c.in_ok-short_up.ensures, option-value c.in_ok-short_down.ensures)
