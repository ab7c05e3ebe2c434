-- The buckets passed, at all three rates, and what is scheduled after them; then the sums, rate by rate.
use Prim.Native.Nat.{ℕ, ◌/◌, ◌%◌, ◌<◌}
use mathlib.Core.List.{List, map, [], ◌∷◌}
use mathlib.Core.Path.{◌≡◌, refl, sym, ap, ◌∙◌}
use native.Mathlib.Numerals.{add-one}
use native.Mathlib.Omega.{arith}
use lib.ListN.{length, get_or, get_or-map, replicate}
use borrow.Author.Rules.{rules}
use Rattle.laws.specs.Sums.{sum}
use Rattle.laws.proofs.Lists.{tabulate-is, tabulate-ext}
use Rattle.paper.specs.Behaviour.{whole_rate, behavioural_rate, outstanding_at, scheduled_at, loan_flow}
use Rattle.paper.proofs.Deposits.{rate-at-most}
use Rattle.fields.specs.Answers.{amounts_from}
use Rattle.posting.proofs.Loops.{row-long, row_small, row_at}
use Rattle.scales.specs.declared.Thousands.{Thousands}
use Rattle.behaviour.specs.declared.course.Course.{Course}
use Rattle.behaviour.specs.Rows.{three_multipliers}
use Rattle.behaviour.specs.Columns.{rates, balances, sums}
use Rattle.behaviour.proofs.Columns.{kept-none, columns-none, columns-all}
use Rattle.behaviour.proofs.Prepayment.{rest-is}
use Rattle.behaviour.proofs.loan.loan_rows.Goals as goal
use Rattle.behaviour.proofs.loan.loan_rows.Goals.{After-map-courses}

-- ---- the courses at the start

module _ (balance : Thousands) where
  abbrev start : ℕ → Course
  start rate = record { rate = rate; balance = balance; sum = record { 0 = 0 } }

  rates-start : (l : List ℕ) → rates (map start l) ≡ l
  rates-start [] = refl
  rates-start (x ∷ l) = ap (λ (t : List ℕ). x ∷ t) (rates-start l)

  balances-start : (l : List ℕ) → balances (map start l) ≡ replicate (length l) balance.0
  balances-start [] = refl
  balances-start (x ∷ l) = ap (λ (t : List ℕ). balance.0 ∷ t) (balances-start l)

  sums-start : (l : List ℕ) → sums (map start l) ≡ replicate (length l) 0
  sums-start [] = refl
  sums-start (x ∷ l) = ap (λ (t : List ℕ). 0 ∷ t) (sums-start l)

three-elements : {A : Type 0} (l : List A) (a b c : A) → length l ≡ 3 → ((d : A) → get_or l 0 d ≡ a) → ((d : A) → get_or l 1 d ≡ b) → ((d : A) → get_or l 2 d ≡ c)
    → l ≡ a ∷ b ∷ c ∷ []
three-elements [] a b c e f g h = absurd (omega arith)
three-elements (x ∷ []) a b c e f g h = absurd (omega arith)
three-elements (x ∷ y ∷ []) a b c e f g h = absurd (omega arith)
three-elements (x ∷ y ∷ z ∷ []) a b c e f g h = let p : x ≡ a = f a in let q : y ≡ b = g a in let r : z ≡ c = h a in cc
three-elements (x ∷ y ∷ z ∷ w ∷ l) a b c e f g h = absurd (omega arith)

started : (c : After-map-courses) → c.map-courses.result ≡ map (start c.sum_from-remaining.result) c.rates_of.result
started c =
    let all = start c.sum_from-remaining.result in
    let one = c.map-courses.ensures.items.each in
    let two = one.6 in
    let three = two.6 in
    let first : one.2 ≡ all one.1 = search (rules, one.5) in
    let second : two.2 ≡ all two.1 = search (rules, one.5, two.5) in
    let third : three.2 ≡ all three.1 = search (rules, one.5, two.5, three.5) in
    let made : one.2 ∷ two.2 ∷ three.2 ∷ [] ≡ map all (one.1 ∷ two.1 ∷ three.1 ∷ []) = (cc) in
    three-elements c.map-courses.result one.2 two.2 three.2 c.map-courses.ensures.items.long one.4.1 two.4.1 three.4.1
    ∙ made
    ∙ ap (map all)
    (sym (three-elements c.rates_of.result one.1 two.1 three.1 (row-long (behavioural_rate three_multipliers c.args.share) 3 c.rates_of.ensures) one.3.1 two.3.1 three.3.1))

pub loop-k-init : goal.loop-k-init
unfolding sum outstanding_at scheduled_at
loop-k-init c =
    let made = started (goal.at.loop-k-init c).After-map-courses in
    let all = c.sum_from-remaining.result in
    let three : length c.rates_of.result ≡ 3 = row-long (behavioural_rate three_multipliers c.args.share) 3 c.rates_of.ensures in
    record {
      at_rates = ap rates (made) ∙ rates-start all c.rates_of.result ∙ c.rates_of.ensures;
      reached = record {
        flows = columns-none (omega arith);
        added = rw (made, sums-start all c.rates_of.result, three) (kept-none 0 (λ r. refl));
        left = rw (made, balances-start all c.rates_of.result, three) (kept-none all.0 (λ r. sym c.sum_from-remaining.ensures.0));
      };
      left = c.sum_from-remaining.ensures.0;
    }

pub loan_column-requires-clause-rates : goal.loan_column-requires-clause-rates
loan_column-requires-clause-rates c =
    row_small (behavioural_rate three_multipliers c.args.share) 3 whole_rate c.loop-k.invariant.at_rates (λ r _. rate-at-most three_multipliers c.args.share r)

pub overflow_sub-remaining : goal.overflow_sub-remaining
overflow_sub-remaining c = (rest-is (amounts_from c.args.body.now 3) c.loop-k.k c.amount_of.ensures.0 c.loop-k.invariant.left).0

pub loop-k-preserved : goal.loop-k-preserved
loop-k-preserved c = record {
  at_rates = c.loan_column.ensures.same_rates ∙ c.loop-k.invariant.at_rates;
  reached = c.loan_column.ensures.reached;
  left = rw add-one (rest-is (amounts_from c.args.body.now 3) c.loop-k.k c.amount_of.ensures.0 c.loop-k.invariant.left).1;
}

-- a course past the end of a list
abbrev none : Course
none = record { rate = 0; balance = record { 0 = 0 }; sum = record { 0 = 0 } }

-- one of the three rates
pub returns : goal.returns
returns c =
    let body = c.args.body.now in
    let flow : ℕ → ℕ → ℕ = λ rate. loan_flow rate (amounts_from body 3) (amounts_from body 79) in
    let last : c.loop-k.k ≡ 19 = omega arith in
    let reached = rw last at c.loop-k.invariant.reached in
    let rate-at : (r : ℕ) → r < 3 → get_or (rates c.loop-k.courses) r 0 ≡ behavioural_rate three_multipliers c.args.share r
    = row_at (behavioural_rate three_multipliers c.args.share) 3 c.loop-k.invariant.at_rates in
    record {
      rows_after = columns-all reached.flows ∙ tabulate-ext _ _ 57 (λ j o. ap (λ (rate : ℕ). flow rate (j % 19)) (rate-at (j / 19) (omega arith)));
      sums_after =
          tabulate-is 0 c.map.result _ 3 c.map.ensures.items.long
          (λ r o.
          let k = (c.map.ensures.items.at r none 0 o).2 in
          let e : get_or c.map.result r 0 ≡ (get_or c.loop-k.courses r none).sum.0 = search rules in
          e ∙ sym (get_or-map (λ (x : Course). x.sum.0) c.loop-k.courses r none) ∙ reached.added.at r o ∙ ap (λ (rate : ℕ). sum (flow rate) 19) (rate-at r o));
    }
