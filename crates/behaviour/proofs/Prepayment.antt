-- Kind 5: one bucket's arithmetic, and what the balances are bounded by.
use Prim.Native.Nat.{ℕ, zero, suc, ◌+◌, ◌-◌, ◌≤◌, ◌<◌}
use mathlib.Core.Bool.{Bool, false, ◌&&◌}
use mathlib.Core.List.{List}
use mathlib.Core.Path.{◌≡◌, sym, ap, ◌∙◌}
use native.Mathlib.Nat.{le_refl}
use native.Mathlib.Omega.{arith}
use lib.ListN.{length, get_or}
use borrow.Author.Tests.{lt-ltb, eqb-false}
use Rattle.laws.specs.Tests.{◌is◌, ◌below◌}
use Rattle.laws.specs.Sums.{sum, sum_of}
use Rattle.laws.proofs.Sums.{sum-add, sum-le, sum_mono}
use Rattle.laws.proofs.Totals.{sum-get_or, sum_drop}
use Rattle.paper.specs.Ladder.{buckets, width}
use Rattle.paper.specs.Behaviour.{paid, prepaid, interest, outstanding_at, scheduled_at, paid_at, prepaid_at, interest_at, loan_flow}
use Rattle.paper.specs.TurnedDown.{interest_alone}
use Rattle.paper.proofs.Loan.{taken-so-far, on-schedule, interest-at-most}

-- where interest is due, something is scheduled
pub not-alone : (scheduled remaining : ℕ) → (0 below scheduled && remaining is 0) ≡ false → 0 < scheduled → 0 < remaining
not-alone scheduled remaining t h =
    let none : remaining ≡ 0 → ⊥ = eqb-false remaining 0 (ap (λ (b : Bool). b && remaining is 0) (sym (lt-ltb 0 scheduled h)) ∙ t) in
    omega arith

-- what is scheduled after bucket k + 1
pub rest-is : (principals : List ℕ) (k : ℕ) {principal remaining : ℕ} → principal ≡ get_or principals k 0 → remaining ≡ scheduled_at principals k
    → (principal ≤ remaining) × (remaining - principal ≡ scheduled_at principals (suc k))
unfolding scheduled_at
rest-is principals k p r = (omega (arith, sum_drop principals k), omega (arith, sum_drop principals k))

module _ (rate : ℕ) (principals interests : List ℕ) where
  -- ---- bounds

  scheduled-within : (k : ℕ) → scheduled_at principals k ≤ sum_of principals
  unfolding scheduled_at
  scheduled-within zero = le_refl (sum_of principals)
  scheduled-within (suc k) = omega (arith, scheduled-within k, sum_drop principals k)

  -- flows so far are no more than all that is scheduled
  pub loan-sum : (n : ℕ) → n ≤ buckets → length interests ≤ buckets → sum (loan_flow rate principals interests) n ≤ sum_of principals + sum_of interests
  unfolding loan_flow
  loan-sum n l few =
      let rest : n + (buckets - n) ≡ buckets = omega arith in
      omega (
        arith,
        sum-add (λ k. paid_at rate principals k + prepaid_at rate principals k) (interest_at rate principals interests) n,
        taken-so-far rate principals n,
        sum-le (interest_at rate principals interests) (λ k. get_or interests k 0) n (λ k _. interest-at-most rate principals interests k),
        rw rest at (sum_mono (λ k. get_or interests k 0) n (buckets - n)),
        sum-get_or interests buckets few,
      )

  -- ---- bucket k + 1: its width, its scheduled amounts, and the two balances before payment

  pub record Before (k months principal charge outstanding remaining : ℕ) : Type 0 where
    pub months-are : months ≡ width k
    pub principal-is : principal ≡ get_or principals k 0
    pub charge-is : charge ≡ get_or interests k 0
    pub outstanding-is : outstanding ≡ outstanding_at rate principals k
    pub remaining-is : remaining ≡ scheduled_at principals k

  module _ {k months principal charge outstanding remaining : ℕ} (b : Before k months principal charge outstanding remaining) where
    pub flow-is : (flow : ℕ) → flow ≡ paid principal outstanding + prepaid rate months principal outstanding + interest charge outstanding remaining
        → flow ≡ loan_flow rate principals interests k
    unfolding loan_flow paid_at prepaid_at interest_at
    flow-is flow e = e ∙ rw (b.months-are, b.principal-is, b.charge-is, b.outstanding-is, b.remaining-is)

    pub left_is : (left : ℕ) → left ≡ outstanding - paid principal outstanding - prepaid rate months principal outstanding
        → left ≡ outstanding_at rate principals (suc k)
    unfolding outstanding_at
    left_is left e = e ∙ rw (b.months-are, b.principal-is, b.outstanding-is)

    pub balance-within : (outstanding ≤ remaining) × (remaining ≤ sum_of principals)
    balance-within =
        (omega (arith, b.outstanding-is, b.remaining-is, on-schedule rate principals k), omega (arith, b.remaining-is, scheduled-within k))

    pub none-alone-here : interest_alone principals interests k ≡ false → (0 below charge && remaining is 0) ≡ false
    unfolding interest_alone
    none-alone-here t = rw (b.charge-is, b.remaining-is) t
