-- The rates passed have one bucket more; the others are as they were.
use Prim.Native.Nat.{ℕ, suc, ◌+◌, ◌-◌, ◌<◌}
use mathlib.Core.List.{List}
use mathlib.Core.Path.{◌≡◌, sym, ap, ap₂, ◌∙◌}
use native.Mathlib.Numerals.{add-one}
use native.Mathlib.Omega.{arith}
use lib.ListN.{get_or}
use Rattle.laws.specs.Sums.{sum}
use Rattle.laws.proofs.Sums.{sum_more}
use Rattle.paper.specs.Behaviour.{moved}
use Rattle.fields.specs.Answers.{amounts_from}
use Rattle.behaviour.proofs.Columns.{passed, passed_none, passed-all, kept-to, kept_here, kept_next, columns-to, columns-next}
use Rattle.behaviour.proofs.DepositRows.{moved-few}
use Rattle.behaviour.proofs.term_deposit.withdrawn_column.Goals as goal

-- all that moved so far, with a part more
grown : (rate k : ℕ) (amounts : List ℕ) {before part : ℕ} → before ≡ sum (λ j. moved rate (get_or amounts j 0)) k → part ≡ moved rate (get_or amounts k 0)
    → before + part ≡ sum (λ j. moved rate (get_or amounts j 0)) (suc k)
grown rate k amounts b p = ap₂ ◌+◌ b p ∙ sym (sum_more _ k) ∙ ap (sum _) (add-one k)

pub loop-i-init : goal.loop-i-init
loop-i-init c =
    let none : (r : ℕ) → r < 3 → c.args.k ≡ passed c.args.k 0 r = λ r o. sym (passed_none c.args.k r) in
    record { stays = columns-to none c.requires.deposit_reached.stays; moves = kept-to none c.requires.deposit_reached.moves }

pub moved-part-requires : goal.moved-part-requires
moved-part-requires c = (c.requires.body_len.2 c.loop-i.i, c.amount_of-amount.ensures.1)

pub overflow_sub-rows : goal.overflow_sub-rows
overflow_sub-rows c = c.moved-part.ensures.1

pub bounds-rows-at : goal.bounds-rows-at
bounds-rows-at c = omega (arith, c.loop-i.invariant.stays.long)

pub overflow_add-early : goal.overflow_add-early
overflow_add-early c =
    let rate = get_or c.args.rates.now c.loop-i.i 0 in
    let amounts = amounts_from c.args.body.now 3 in
    let moved_here = c.moved-part.ensures.0 ∙ ap (moved rate) c.amount_of-amount.ensures.0 in
    let more = grown rate c.args.k amounts (kept_here c.loop-i.invariant.moves (omega arith)) moved_here in
    record { fits = omega (arith, more, moved-few rate amounts (suc c.args.k) (c.requires.body_len.2 c.loop-i.i) c.requires.at_most) }

pub loop-i-preserved : goal.loop-i-preserved
loop-i-preserved c =
    let reached = c.loop-i.invariant in
    let rate = get_or c.args.rates.now c.loop-i.i 0 in
    let amounts = amounts_from c.args.body.now 3 in
    let moved_here = c.moved-part.ensures.0 ∙ ap (moved rate) c.amount_of-amount.ensures.0 in
    record {
      stays = columns-next _ reached.stays (omega arith) c.requires.body_len.1 (ap₂ ◌-◌ c.amount_of-amount.ensures.0 moved_here);
      moves = kept_next _ reached.moves (omega arith) (grown rate c.args.k amounts (kept_here reached.moves (omega arith)) moved_here);
    }

pub returns : goal.returns
returns c =
    let last : c.loop-i.i ≡ 3 = omega arith in
    let reached = rw last at c.loop-i.invariant in
    let all = passed-all c.args.k in
    record { stays = columns-to all reached.stays; moves = kept-to all reached.moves }
