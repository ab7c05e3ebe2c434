-- `decode_term_deposit` meets its contract, field by field: those before a field are read, and it is refused or read.
use Rattle.fields.proofs.Reading.{handed, bad, value}
use Rattle.fields.specs.Answers.{as_it_is, total}
use Rattle.fields.proofs.AmountLaws.{amounts-summed}
use Rattle.paper.specs.Refusals.{◌>>=◌, checked_as}
use Rattle.paper.specs.Decode.{decode_term_deposit}
use Rattle.record.proofs.term_deposit.decode_term_deposit.Goals as goal

pub returns-in_err-share : goal.returns-in_err-share
unfolding decode_term_deposit ◌>>=◌ checked_as
returns-in_err-share c = rw (handed _ c.from_residual.ensures.1, c.args.body.known.first, bad as_it_is c.in_err-share.ensures)

pub returns-in_err-amounts_at : goal.returns-in_err-amounts_at
unfolding decode_term_deposit ◌>>=◌ checked_as
returns-in_err-amounts_at c = rw (handed _ c.from_residual-in_err-amounts_at.ensures.1, c.args.body.known.first, value c.in_ok-share.ensures, bad total c.in_err-amounts_at.ensures)

pub returns : goal.returns
unfolding decode_term_deposit ◌>>=◌ checked_as
returns c = rw (c.args.body.known.first, value c.in_ok-share.ensures, (amounts-summed _ 3 c.in_ok-amounts_at.ensures).list)
