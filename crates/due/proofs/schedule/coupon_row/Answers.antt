-- The buckets passed have what is due by their ends less what is due by the ends before.
use Prim.Native.Nat.{ℕ, zero, suc, ◌*◌, ◌-◌, ◌/◌, ◌≤◌, ◌<◌, min}
use mathlib.Core.List.{List}
use mathlib.Core.Path.{◌≡◌, sym, ap, ap₂, ◌∙◌}
use native.Mathlib.Nat.{zero-div, mul-le-mul, mul-le-mul_right}
use native.Mathlib.Omega.{arith}
use lib.ListN.{get_or, replicate}
use borrow.Author.Rules.{rules}
use Rattle.laws.proofs.Filling.{filled_none, filled_next, filled-all}
use Rattle.paper.specs.Ladder.{buckets}
use Rattle.paper.specs.Flow.{coupons_due}
use Rattle.posting.proofs.Loops.{row_at}
use Rattle.due.specs.declared.schedule.Schedule.{Schedule}
use Rattle.due.specs.Schedules.{start_of, month_seen, Regular}
use Rattle.due.proofs.Periods.{ends, coupons-in, due-ordered}
use Rattle.due.proofs.Shares.{end-most}
use Rattle.due.proofs.schedule.coupon_row.Invariants.{by_end}
use Rattle.due.proofs.schedule.coupon_row.Goals as goal
use Rattle.due.proofs.schedule.coupon_row.Goals.{After-due_by_ends-by}

end_before : (by : List ℕ) (k : ℕ) → 1 ≤ k → get_or by (k - 1) 0 ≡ by_end by k
end_before by zero l = absurd (omega arith)
end_before by (suc k) l = let place : suc k - 1 ≡ k = omega arith in ap (λ (j : ℕ). get_or by j 0) place

-- what is known once every end has its coupons
module _ (d : After-due_by_ends-by) where
  abbrev coupons : Schedule
  coupons = d.args.coupons

  abbrev by : List ℕ
  by = d.due_by_ends-by.result

  regular : Regular coupons
  regular = d.requires.regular

  -- the whole periods of the months since the start, of which so many are due
  due-at : (k : ℕ) → k ≤ 19 → by_end by k ≡ min coupons.count ((ends k - month_seen (start_of coupons)) / coupons.period)
  due-at zero l =
      let none : 0 - month_seen (start_of coupons) ≡ 0 = omega arith in
      rw none (omega (arith, zero-div coupons.period))
  due-at (suc k) l =
      let whole = d.period_share-share in
      row_at _ buckets d.due_by_ends-by.ensures k (omega arith)
      ∙ ap (λ (m : ℕ). min coupons.count ((ends (suc k) - m) * whole.result / 65536)) d.month_seen-start.ensures
      ∙ ap (λ (n : ℕ). min coupons.count n) (whole.ensures.1 (ends (suc k) - month_seen (start_of coupons)) (omega (arith, end-most k (omega arith))))

  in_order : (k : ℕ) → k < 19 → by_end by k ≤ by_end by (suc k)
  in_order k l =
      rw (due-at k (omega arith), due-at (suc k) (omega arith))
      (due-ordered (start_of coupons) coupons.period coupons.count regular.some regular.last k l)

  coupons-here : (k : ℕ) → k < 19 → (by_end by (suc k) - by_end by k) * coupons.coupon.0 ≡ coupons_due (start_of coupons) coupons.period coupons.count coupons.coupon.0 k
  coupons-here k l =
      ap₂ (λ (x y : ℕ). (x - y) * coupons.coupon.0) (due-at (suc k) (omega arith)) (due-at k (omega arith))
      ∙ sym (coupons-in (start_of coupons) coupons.period coupons.count regular.some regular.last coupons.coupon.0 k l)

  few : (k : ℕ) → k < 19 → by_end by (suc k) ≤ 600
  few k l = omega (arith, due-at (suc k) (omega arith), mul-le-mul_right coupons.count regular.some, regular.last)

pub month_seen-start-requires : goal.month_seen-start-requires
month_seen-start-requires c = omega (arith, c.requires.regular.last)

pub period_share-share-requires : goal.period_share-share-requires
period_share-share-requires c = (c.requires.regular.some, c.requires.regular.year)

pub overflow_mul-row : goal.overflow_mul-row
overflow_mul-row c = record { fits = omega (arith, mul-le-mul (few (goal.at.overflow_mul-row c).After-due_by_ends-by 0 (omega arith)) (regular (goal.at.overflow_mul-row c).After-due_by_ends-by).small) }

pub loop-k-init : goal.loop-k-init
loop-k-init c =
    let done = (goal.at.loop-k-init c).After-due_by_ends-by in
    let first : get_or (by done) 0 0 ≡ get_or (by done) 0 0 - 0 = omega arith in
    (search rules, filled_next 0 _ (replicate 19 0) 0 _ (filled_none 0 _ (replicate 19 0)) (ap (λ (n : ℕ). n * (coupons done).coupon.0) first) (search rules))

pub overflow_sub-row-in-loop-k : goal.overflow_sub-row-in-loop-k
overflow_sub-row-in-loop-k c =
    let at = c.loop-k in
    rw (end_before (by (goal.at.overflow_sub-row-in-loop-k c).After-due_by_ends-by) at.k (omega arith)) (in_order (goal.at.overflow_sub-row-in-loop-k c).After-due_by_ends-by at.k (omega arith))

pub overflow_mul-row-in-loop-k : goal.overflow_mul-row-in-loop-k
overflow_mul-row-in-loop-k c =
    let k = c.loop-k.k in
    let here : get_or (by (goal.at.overflow_mul-row-in-loop-k c).After-due_by_ends-by) k 0 - get_or (by (goal.at.overflow_mul-row-in-loop-k c).After-due_by_ends-by) (k - 1) 0 ≤ 600 = omega (arith, few (goal.at.overflow_mul-row-in-loop-k c).After-due_by_ends-by k (omega arith)) in
    record { fits = omega (arith, mul-le-mul here (regular (goal.at.overflow_mul-row-in-loop-k c).After-due_by_ends-by).small) }

pub loop-k-preserved : goal.loop-k-preserved
loop-k-preserved c =
    let at = c.loop-k in
    let value = ap (λ (n : ℕ). (get_or (by (goal.at.loop-k-preserved c).After-due_by_ends-by) at.k 0 - n) * (coupons (goal.at.loop-k-preserved c).After-due_by_ends-by).coupon.0) (end_before (by (goal.at.loop-k-preserved c).After-due_by_ends-by) at.k (omega arith)) in
    (search rules, filled_next 0 _ at.row at.k _ at.invariant.1 value (search rules))

pub returns : goal.returns
returns c =
    let at = c.loop-k in
    filled-all 0 _ at.row buckets at.invariant.0 (λ k l. at.invariant.1 k (omega arith) ∙ coupons-here (goal.at.returns c).After-due_by_ends-by k l)
