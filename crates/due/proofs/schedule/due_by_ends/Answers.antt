-- The buckets passed have the coupons due by their ends.
use native.Mathlib.Omega.{arith}
use borrow.Author.Rules.{rules}
use Rattle.laws.proofs.Filling.{filled_next, filled-all}
use Rattle.paper.specs.Ladder.{buckets}
use Rattle.due.specs.Schedules.{month_ends}
use Rattle.due.proofs.Shares.{end-most}
use Rattle.due.proofs.schedule.due_by_ends.Goals as goal

pub due_by-requires : goal.due_by-requires
unfolding month_ends
due_by-requires c = (end-most c.loop-k.k (omega arith), c.requires)

pub loop-k-preserved : goal.loop-k-preserved
unfolding month_ends
loop-k-preserved c =
    let at = c.loop-k in
    (search rules, filled_next 0 _ at.by at.k _ at.invariant.1 c.due_by.ensures (search rules))

pub returns : goal.returns
returns c =
    let at = c.loop-k in
    filled-all 0 _ at.by buckets at.invariant.0 (λ k l. at.invariant.1 k (omega arith))
