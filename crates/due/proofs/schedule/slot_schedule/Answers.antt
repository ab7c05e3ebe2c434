-- `slot_schedule` meets its contract: a row of coupons, an amount added in its bucket, and the row entered.
use Prim.Native.Nat.{ℕ, ◌+◌, ◌*◌, ◌-◌, ◌≤◌}
use mathlib.Core.List.{List}
use mathlib.Core.Path.{◌≡◌}
use native.Mathlib.Omega.{arith}
use lib.ListN.{get_or, set}
use Rattle.laws.specs.Lists.{tabulate}
use Rattle.paper.specs.Ladder.{buckets, Term}
use Rattle.paper.specs.Flow.{coupons_due}
use Rattle.posting.specs.Parts.{trillion}
use Rattle.posting.proofs.Loops.{row_small, row_at}
use Rattle.posting.proofs.Admission.{row-entered}
use Rattle.due.specs.declared.schedule.Schedule.{Schedule}
use Rattle.due.specs.Schedules.{start_of, scheduled}
use Rattle.due.proofs.Periods.{amount-row, coupons-most, coupons-small, scheduled-small}
use Rattle.due.proofs.schedule.slot_schedule.Goals as goal
use Rattle.due.proofs.schedule.slot_schedule.Goals.{After-bucket_of-bucket}

-- what is known once the bucket of the amount is
module _ (b : After-bucket_of-bucket) where
  abbrev coupons : Schedule
  coupons = b.args.coupons

  abbrev amount : ℕ
  amount = b.args.amount.0

  abbrev term : Term
  term = record {
    months = b.args.months;
    days = b.args.days;
  }

  abbrev row : List ℕ
  row = b.coupon_row-row.result

  whole : set row (b.bucket_of-bucket.result - 1) (get_or row (b.bucket_of-bucket.result - 1) 0 + amount) ≡ tabulate (scheduled coupons term amount) buckets
  whole = amount-row _ row term b.bucket_of-bucket.result amount b.coupon_row-row.ensures b.bucket_of-bucket.ensures.value

  small : coupons.count * coupons.coupon.0 + amount ≤ trillion
  small =
      omega (arith, coupons-most coupons b.requires.regular.0, b.requires.regular.1)

pub overflow_mul-size : goal.overflow_mul-size
overflow_mul-size c = record { fits = omega (arith, coupons-most c.args.coupons c.requires.regular.0) }

pub overflow_add-size : goal.overflow_add-size
overflow_add-size c = record { fits = omega (arith, coupons-most c.args.coupons c.requires.regular.0, c.requires.regular.1) }

pub overflow_add-row : goal.overflow_add-row
overflow_add-row c =
    let k = c.bucket_of-bucket.result - 1 in
    let here = row_at (coupons_due (start_of (coupons (goal.at.overflow_add-row c).After-bucket_of-bucket)) (coupons (goal.at.overflow_add-row c).After-bucket_of-bucket).period (coupons (goal.at.overflow_add-row c).After-bucket_of-bucket).count (coupons (goal.at.overflow_add-row c).After-bucket_of-bucket).coupon.0) buckets c.coupon_row-row.ensures k (omega arith) in
    record { fits = omega (arith, here, coupons-small (coupons (goal.at.overflow_add-row c).After-bucket_of-bucket) k (omega arith), small (goal.at.overflow_add-row c).After-bucket_of-bucket) }

pub enter_row-requires : goal.enter_row-requires
enter_row-requires c =
    let rule = scheduled (coupons (goal.at.enter_row-requires c).After-bucket_of-bucket) (term (goal.at.enter_row-requires c).After-bucket_of-bucket) (amount (goal.at.enter_row-requires c).After-bucket_of-bucket) in record {
      row_small = (
        row_small rule buckets trillion (whole (goal.at.enter_row-requires c).After-bucket_of-bucket) (λ k l. omega (arith, scheduled-small (coupons (goal.at.enter_row-requires c).After-bucket_of-bucket) (term (goal.at.enter_row-requires c).After-bucket_of-bucket) (amount (goal.at.enter_row-requires c).After-bucket_of-bucket) k l, small (goal.at.enter_row-requires c).After-bucket_of-bucket)),
        small (goal.at.enter_row-requires c).After-bucket_of-bucket,
      );
      flow_parts = c.requires.flow_parts;
    }

pub returns : goal.returns
returns c =
    row-entered (scheduled (coupons (goal.at.returns c).After-bucket_of-bucket) (term (goal.at.returns c).After-bucket_of-bucket) (amount (goal.at.returns c).After-bucket_of-bucket)) _ _ (whole (goal.at.returns c).After-bucket_of-bucket) c.enter_row.ensures
