-- `decode_coupons` meets its contract, field by field: those before a field are read, and it is refused or read.
use Rattle.paper.specs.Refusals.{◌>>=◌, checked_as}
use Rattle.paper.specs.Decode.{decode_coupons}
use Rattle.fields.specs.Answers.{as_it_is, thousands}
use Rattle.fields.proofs.Reading.{handed, bad, amount-value, value}
use Rattle.record.proofs.coupons.decode_coupons.Goals as goal

pub returns-in_err-side : goal.returns-in_err-side
unfolding decode_coupons ◌>>=◌ checked_as
returns-in_err-side c = rw (handed _ c.from_residual.ensures.1, c.args.body.known.first, bad as_it_is c.in_err-side.ensures)

pub returns-in_err-period : goal.returns-in_err-period
unfolding decode_coupons ◌>>=◌ checked_as
returns-in_err-period c = rw (handed _ c.from_residual-in_err-period.ensures.1, c.args.body.known.first, value c.in_ok-side.ensures, bad as_it_is c.in_err-period.ensures)

pub returns-in_err-count : goal.returns-in_err-count
unfolding decode_coupons ◌>>=◌ checked_as
returns-in_err-count c = rw (handed _ c.from_residual-in_err-count.ensures.1, c.args.body.known.first, value c.in_ok-side.ensures, value c.in_ok-period.ensures, bad as_it_is c.in_err-count.ensures)

pub returns-in_err-coupon : goal.returns-in_err-coupon
unfolding decode_coupons ◌>>=◌ checked_as
returns-in_err-coupon c = rw (handed _ c.from_residual-in_err-coupon.ensures.1, c.args.body.known.first, value c.in_ok-side.ensures, value c.in_ok-period.ensures, value c.in_ok-count.ensures, bad thousands c.in_err-coupon.ensures)

pub returns-in_err-principal : goal.returns-in_err-principal
unfolding decode_coupons ◌>>=◌ checked_as
returns-in_err-principal c = rw (handed _ c.from_residual-in_err-principal.ensures.1, c.args.body.known.first, value c.in_ok-side.ensures, value c.in_ok-period.ensures, value c.in_ok-count.ensures, amount-value c.in_ok-coupon.ensures, bad thousands c.in_err-principal.ensures)

pub returns : goal.returns
unfolding decode_coupons ◌>>=◌ checked_as
returns c = rw (c.args.body.known.first, value c.in_ok-side.ensures, value c.in_ok-period.ensures, value c.in_ok-count.ensures, amount-value c.in_ok-coupon.ensures, amount-value c.in_ok-principal.ensures)
