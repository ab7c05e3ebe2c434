-- A record's magnitude in one scenario, kind by kind, as refusal 14 counts it: gross, whatever the side.
use Prim.Native.Nat.{ℕ, zero, suc, ◌+◌, ◌*◌, ◌-◌, ◌≤◌}
use mathlib.Core.Bool.{Bool, true, false}
use mathlib.Core.List.{List}
use mathlib.Core.Path.{◌≡◌, refl, sym, ap, ◌∙◌}
use native.Mathlib.Omega.{arith}
use lib.IntN.{ℤ, pos, neg_ℤ, nat_abs}
use lib.ListN.{get_or, length}
use Rattle.std.specs.Prelude.{if◌then◌else◌}
use Rattle.laws.specs.Tests.{◌is◌}
use Rattle.laws.specs.Sums.{sum, sum_of}
use Rattle.laws.proofs.Integers.{abs_neg}
use Rattle.laws.proofs.Sums.{sum-ext, sum-add, sum-le, sum-nil, sum-only}
use Rattle.laws.proofs.Totals.{sum-get_or}
use Rattle.paper.specs.Ladder.{buckets, Term, in_months, today, later, bucket_of}
use Rattle.paper.specs.Curve.{Curve}
use Rattle.paper.specs.Records.{Flows, single, coupons, floating, deposit, loan, term_deposit, floating_spread, flows, option, curve}
use Rattle.paper.specs.Behaviour.{deposit_flow, prepayment_rate, withdrawal_rate, paid_at, prepaid_at, interest_at, loan_flow, term_deposit_flow}
use Rattle.paper.specs.Flow.{sided, due, coupons_due, flow_of, flow, magnitude}
use Rattle.paper.proofs.Buckets.{in-bucket}
use Rattle.paper.proofs.Deposits.{deposit-adds-up, term-deposit-adds-up}
use Rattle.paper.proofs.Loan.{loan-returns, interest-at-most}
use borrow.Author.Tests.{eq-eqb, ne_eqb}

-- an amount is due once
pub due-once : (term : Term) (amount : ℕ) → sum (due term amount) buckets ≡ amount
unfolding due
due-once term amount =
    let i = in-bucket term in
    let k : ℕ = bucket_of term - 1 in
    let here : bucket_of term ≡ suc k = omega (arith, i.from) in
    sum-only (due term amount) buckets k (omega (arith, i.to)) (λ j _ n. rw (ne_eqb (bucket_of term) (suc j) (λ e. n (omega arith)))) ∙ rw (eq-eqb (bucket_of term) (suc k) here)

pub coupons-add-up : (start : Term) (period count coupon : ℕ) → sum (coupons_due start period count coupon) buckets ≡ count * coupon
unfolding coupons_due sum
coupons-add-up start period zero coupon = sum-nil buckets ∙ omega arith
coupons-add-up start period (suc n) coupon =
    omega (
      arith,
      sum-add (coupons_due start period n coupon) (due (later (period * suc n) start) coupon) buckets,
      coupons-add-up start period n coupon,
      due-once (later (period * suc n) start) coupon,
    )

pub coupons-and-due : (start : Term) (period count coupon : ℕ) (term : Term) (amount : ℕ)
    → sum (λ k. coupons_due start period count coupon k + due term amount k) buckets ≡ count * coupon + amount
coupons-and-due start period count coupon term amount =
    sum-add (coupons_due start period count coupon) (due term amount) buckets ∙ omega (arith, coupons-add-up start period count coupon, due-once term amount)

pub abs-sided : (side : ℕ) (z : ℤ) → nat_abs (sided side z) ≡ nat_abs z
unfolding sided
abs-sided side z = by (side is 1)
  where
    by : (b : Bool) → nat_abs (if b then z else neg_ℤ z) ≡ nat_abs z
    by true = refl
    by false = abs_neg z

module _ (c i : ℕ) where
  -- flows of one side come to their sum
  pub size-sided : (f : Flows) (side : ℕ) (amounts : ℕ → ℕ) → ((k : ℕ) → sided side (pos (amounts k)) ≡ flow_of f i k) → magnitude (flows c f) i ≡ sum amounts buckets
  unfolding magnitude flow
  size-sided f side amounts are = sum-ext _ _ buckets (λ k _. ap nat_abs (sym (are k)) ∙ abs-sided side (pos (amounts k)))

  pub size-single : (side : ℕ) (term : Term) (amount : ℕ) → magnitude (flows c (single side term amount)) i ≡ amount
  unfolding flow_of
  size-single side term amount = size-sided _ side (due term amount) (λ k. refl) ∙ due-once term amount

  pub size-coupons : (side period count coupon principal : ℕ) → magnitude (flows c (coupons side period count coupon principal)) i ≡ count * coupon + principal
  unfolding flow_of
  size-coupons side period count coupon principal =
      let last = in_months (period * count) in
      size-sided _ side (λ k. coupons_due today period count coupon k + due last principal k) (λ k. refl) ∙ coupons-and-due today period count coupon last principal

  pub size-floating : (side : ℕ) (reset : Term) (principal coupon : ℕ) → magnitude (flows c (floating side reset principal coupon)) i ≡ principal + coupon
  unfolding flow_of
  size-floating side reset principal coupon = size-sided _ side (due reset (principal + coupon)) (λ k. refl) ∙ due-once reset (principal + coupon)

  pub size-floating-spread : (side : ℕ) (reset : Term) (principal coupon period count spread : ℕ)
      → magnitude (flows c (floating_spread side reset principal coupon period count spread)) i ≡ count * spread + (principal + coupon)
  unfolding flow_of
  size-floating-spread side reset principal coupon period count spread =
      size-sided _ side (λ k. coupons_due reset period count spread k + due reset (principal + coupon) k) (λ k. refl)
      ∙ coupons-and-due reset period count spread reset (principal + coupon)

  pub size-deposit : (category whole : ℕ) (core : List ℕ) → length core ≤ buckets → sum_of core ≤ whole → magnitude (flows c (deposit category whole core)) i ≡ whole
  unfolding sided flow_of
  size-deposit category whole core h l = size-sided _ 2 (deposit_flow whole core) (λ k. refl) ∙ deposit-adds-up whole core h l

  pub size-term-deposit : (share : ℕ) (amounts : List ℕ) → length amounts ≤ buckets → magnitude (flows c (term_deposit share amounts)) i ≡ sum_of amounts
  unfolding sided flow_of
  size-term-deposit share amounts h = size-sided _ 2 (term_deposit_flow (withdrawal_rate share i) amounts) (λ k. refl) ∙ term-deposit-adds-up share i amounts h

  -- that scenario's own flows; they are no more than whole that is scheduled
  pub size-loan : (share : ℕ) (principals interests : List ℕ) → length principals ≤ buckets → length interests ≤ buckets
      → magnitude (flows c (loan share principals interests)) i ≤ sum_of principals + sum_of interests
  unfolding magnitude flow flow_of loan_flow
  size-loan share principals interests h l =
      let rate = prepayment_rate share i in
      omega (
        arith,
        sum-add (λ k. paid_at rate principals k + prepaid_at rate principals k) (interest_at rate principals interests) buckets,
        loan-returns share i principals h,
        sum-le (interest_at rate principals interests) (λ k. get_or interests k 0) buckets (λ k _. interest-at-most rate principals interests k),
        sum-get_or interests buckets l,
      )

  pub size-option : (side : ℕ) (values : List ℤ) → magnitude (option c side values) i ≡ 0
  unfolding magnitude flow
  size-option side values = sum-nil buckets

  pub size-curve : (z : Curve) → magnitude (curve c z) i ≡ 0
  unfolding magnitude flow
  size-curve z = sum-nil buckets
