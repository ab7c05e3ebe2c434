-- The rates passed have one bucket more; the others are as they were.
use Prim.Native.Nat.{ℕ, suc, ◌+◌, ◌<◌}
use mathlib.Core.List.{List}
use mathlib.Core.Path.{◌≡◌, refl, sym, ap, ap₂, ◌∙◌}
use native.Mathlib.Numerals.{add-one}
use native.Mathlib.Omega.{arith}
use lib.ListN.{get_or, get_or-map}
use lib.Seq.{map-set_same}
use Rattle.std.proofs.lemmas.List.{map-set}
use Rattle.laws.specs.Sums.{sum}
use Rattle.laws.proofs.Sums.{sum_more}
use Rattle.paper.specs.Behaviour.{loan_flow}
use Rattle.paper.proofs.Widths.{width-most}
use Rattle.fields.specs.Answers.{amounts_from}
use Rattle.behaviour.specs.declared.course.Course.{Course}
use Rattle.behaviour.specs.Columns.{rates}
use Rattle.behaviour.proofs.AmountRange.{amounts-few}
use Rattle.behaviour.proofs.Columns.{passed, passed_none, passed-all, kept-to, kept_here, kept_next, columns-to, columns-next}
use Rattle.behaviour.proofs.Prepayment.{Before, flow-is, left_is, balance-within, none-alone-here, loan-sum}
use Rattle.behaviour.proofs.loan.loan_column.Goals as goal
use Rattle.behaviour.proofs.loan.loan_column.Goals.{In-loop-i}

-- a course past the end of a list
abbrev none : Course
none = record { rate = 0; balance = record { 0 = 0 }; sum = record { 0 = 0 } }

-- the sum so far, with a flow more
grown : (rate k : ℕ) (principals interests : List ℕ) {before flow : ℕ} → before ≡ sum (loan_flow rate principals interests) k → flow ≡ loan_flow rate principals interests k
    → before + flow ≡ sum (loan_flow rate principals interests) (suc k)
grown rate k principals interests b f = ap₂ ◌+◌ b f ∙ sym (sum_more _ k) ∙ ap (sum _) (add-one k)

-- ---- the course at hand

module _ (c : In-loop-i) where
  abbrev course : Course
  course = get_or c.loop-i.courses c.loop-i.i none

  abbrev rate : ℕ
  rate = get_or (rates c.args.courses.now) c.loop-i.i 0

  rate-is : course.rate ≡ rate
  rate-is =
      sym (get_or-map (λ (x : Course). x.rate) c.loop-i.courses c.loop-i.i none) ∙ ap (λ (l : List ℕ). get_or l c.loop-i.i 0) c.loop-i.invariant.1

  sum-is : course.sum.0 ≡ sum (loan_flow rate (amounts_from c.args.body.now 3) (amounts_from c.args.body.now 79)) c.args.k
  sum-is =
      sym (get_or-map (λ (x : Course). x.sum.0) c.loop-i.courses c.loop-i.i none) ∙ kept_here c.loop-i.invariant.0.added (omega arith)

  before : Before rate (amounts_from c.args.body.now 3) (amounts_from c.args.body.now 79) c.args.k c.args.width c.amount_of.result.0 c.amount_of-2.result.0 course.balance.0 c.args.remaining.0
  before = record {
    months-are = c.requires.body_len.2;
    principal-is = c.amount_of.ensures.0;
    charge-is = c.amount_of-2.ensures.0;
    outstanding-is = sym (get_or-map (λ (x : Course). x.balance.0) c.loop-i.courses c.loop-i.i none) ∙ kept_here c.loop-i.invariant.0.left (omega arith);
    remaining-is = c.requires.remaining_value.0;
  }

pub loop-i-init : goal.loop-i-init
loop-i-init c =
    let reached = c.requires.reached in
    let nothing : (r : ℕ) → r < 3 → c.args.k ≡ passed c.args.k 0 r = λ r o. sym (passed_none c.args.k r) in
    (record { flows = columns-to nothing reached.flows; added = kept-to nothing reached.added; left = kept-to nothing reached.left }, refl)

pub invariant_of-bucket : goal.invariant_of-bucket
invariant_of-bucket c =
    let here = (goal.at.invariant_of-bucket c).In-loop-i in
    let b = before here in
    record {
      narrow = rw c.requires.body_len.2 (width-most c.args.k);
      charge_small = c.amount_of-2.ensures.1;
      remaining_small = omega (arith, (balance-within _ _ _ b).1, c.requires.remaining_value.1.all_small);
      none_alone = none-alone-here _ _ _ b (c.requires.remaining_value.1.none-alone c.args.k c.requires.body_len.1);
    }

pub pass-requires : goal.pass-requires
pass-requires c =
    let here = (goal.at.pass-requires c).In-loop-i in
    let schedule = c.requires.remaining_value.1 in
    let all = loan-sum (rate here) (amounts_from c.args.body.now 3) (amounts_from c.args.body.now 79) c.args.k (omega arith) (amounts-few c.args.body.now 79) in
    (omega (arith, rate-is here, c.requires.rates c.loop-i.i), (balance-within _ _ _ (before here)).0, omega (arith, sum-is here, all, schedule.all_small))

pub loop-i-preserved : goal.loop-i-preserved
loop-i-preserved c =
    let here = (goal.at.loop-i-preserved c).In-loop-i in
    let at = c.loop-i in
    let reached = at.invariant.0 in
    let next = c.pass.new.self in
    let b = before here in
    let flow = flow-is _ _ _ b _ (rw (rate-is here) at c.pass.ensures.flow) in
    let left = left_is _ _ _ b _ (rw (rate-is here) at c.pass.ensures.balance) in
    let more = c.pass.ensures.sum ∙ grown (rate here) c.args.k (amounts_from c.args.body.now 3) (amounts_from c.args.body.now 79) (sum-is here) flow in (
      record {
        flows = columns-next _ reached.flows (omega arith) c.requires.body_len.1 flow;
        added = rw (map-set (λ (x : Course). x.sum.0) at.courses at.i next) (kept_next _ reached.added (omega arith) more);
        left = rw (map-set (λ (x : Course). x.balance.0) at.courses at.i next) (kept_next _ reached.left (omega arith) left);
      },
      map-set_same (λ (x : Course). x.rate) at.courses at.i next none c.pass.ensures.rate ∙ at.invariant.1,
    )

pub returns-clause-reached : goal.returns-clause-reached
returns-clause-reached c =
    let last : c.loop-i.i ≡ 3 = omega arith in
    let reached = rw last at c.loop-i.invariant.0 in
    let all = passed-all c.args.k in
    rw c.loop-i.invariant.1 (record { flows = columns-to all reached.flows; added = kept-to all reached.added; left = kept-to all reached.left })
