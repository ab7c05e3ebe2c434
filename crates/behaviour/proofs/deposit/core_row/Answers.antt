-- The core amounts passed stand in their buckets.
use Prim.Native.Nat.{ℕ, ◌-◌}
use mathlib.Core.List.{List}
use mathlib.Core.Path.{◌≡◌, ap, ◌∙◌}
use native.Mathlib.Omega.{arith}
use lib.ListN.{length, get_or, replicate}
use borrow.Author.Rules.{rules}
use Rattle.laws.specs.Sums.{sum_of}
use Rattle.laws.proofs.Lists.{tabulate-length}
use Rattle.fields.specs.Answers.{amounts_from}
use Rattle.laws.proofs.Filling.{Filled, filled_none, filled_next, filled_copy}
use Rattle.behaviour.proofs.DepositRows.{core-row}
use Rattle.behaviour.proofs.deposit.core_row.Goals as goal

pub loop-k-init : goal.loop-k-init
loop-k-init c = filled_none 0 _ (replicate 19 0)

pub amount_of-requires : goal.amount_of-requires
amount_of-requires c = record { from_in_bounds = (search rules, search rules); at_most = c.requires.at_most.0 }

pub loop-k-preserved : goal.loop-k-preserved
loop-k-preserved c =
    let at = c.loop-k in
    filled_next 0 _ at.cell-items at.k _ at.invariant c.amount_of.ensures.0 (search rules)

-- all core amounts are set down
set-down : (k : ℕ) (body row : List ℕ) → k ≡ 19 → length row ≡ 19 → Filled 0 k (λ j. get_or (amounts_from body 6) j 0) row → row ≡ amounts_from body 6
set-down k body row last long core-in = filled_copy 0 (amounts_from body 6) row 19 (tabulate-length _ 19) long (rw last at core-in)

pub row_sum-core-requires : goal.row_sum-core-requires
row_sum-core-requires c =
    let at = c.loop-k in
    (omega arith, rw (set-down at.k c.args.body.now at.cell-items (omega arith) (omega arith) at.invariant) (λ j. omega (arith, c.requires.at_most.0 j)))

pub overflow_sub-row : goal.overflow_sub-row
overflow_sub-row c =
    let at = c.loop-k in
    let summed = c.row_sum-core.ensures ∙ ap sum_of (set-down at.k c.args.body.now at.cell-items (omega arith) (omega arith) at.invariant) in
    omega (arith, summed, c.requires.at_most.1)

pub overflow_add-row : goal.overflow_add-row
overflow_add-row c =
    record { fits = omega (arith, c.loop-k.invariant 0 (omega arith), c.requires.at_most.0 0, c.requires.body_len.1) }

pub returns : goal.returns
returns c =
    let at = c.loop-k in
    let last : at.k ≡ 19 = omega arith in
    let summed = c.row_sum-core.ensures ∙ ap sum_of (set-down at.k c.args.body.now at.cell-items last (omega arith) at.invariant) in
    core-row c.args.total.0 (amounts_from c.args.body.now 6) at.cell-items _ (omega arith) (rw last at at.invariant) (ap (λ n. c.args.total.0 - n) summed)
