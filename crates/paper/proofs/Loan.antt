-- Kind 5: under every scenario paid and prepaid together return the opening principal, nothing is paid from what payment or prepayment has
-- taken already, prepayment is by the year, and interest is at most what is scheduled.
use Prim.Native.Nat.{ℕ, zero, suc, ◌+◌, ◌*◌, ◌/◌, ◌≤◌}
use mathlib.Core.Bool.{Bool, true, false}
use mathlib.Core.List.{List}
use mathlib.Core.Path.{◌≡◌, ap}
use native.Mathlib.Nat.{mul-add, mul-le-mul_left, mul-le-mul_right, div-le_of_le-mul}
use native.Mathlib.Omega.{arith}
use lib.ListN.{get_or, length, drop, drop_of_length-le}
use Rattle.std.specs.Prelude.{if◌then◌else◌}
use Rattle.laws.specs.Tests.{◌is◌}
use Rattle.laws.specs.Sums.{sum, total, sum_of}
use Rattle.laws.proofs.Totals.{sum_drop}
use Rattle.paper.specs.Ladder.{buckets, widths, width}
use Rattle.paper.specs.Behaviour.{whole_rate, whole_year, paid, prepaid, interest, prepayment_rate, outstanding_at, scheduled_at, paid_at, prepaid_at, interest_at}

module _ (rate : ℕ) (principals : List ℕ) where
  -- what is left, paid and prepaid in a bucket is what was outstanding there
  pub taken-once : (k : ℕ) → outstanding_at rate principals (suc k) + (paid_at rate principals k + prepaid_at rate principals k) ≡ outstanding_at rate principals k
  unfolding outstanding_at paid_at prepaid_at paid prepaid
  taken-once k = omega arith

  pub taken-so-far : (n : ℕ) → outstanding_at rate principals n + sum (λ k. paid_at rate principals k + prepaid_at rate principals k) n ≡ sum_of principals
  unfolding sum outstanding_at
  taken-so-far zero = omega arith
  taken-so-far (suc n) = omega (arith, taken-so-far n, taken-once n)

  -- what payment alone would leave is scheduled later
  left-scheduled : (k s : ℕ) → outstanding_at rate principals k ≤ get_or principals k 0 + s → outstanding_at rate principals (suc k) ≤ s
  unfolding outstanding_at paid prepaid
  left-scheduled k s h = omega arith

  pub on-schedule : (k : ℕ) → outstanding_at rate principals k ≤ scheduled_at principals k
  unfolding outstanding_at scheduled_at
  on-schedule zero = omega arith
  on-schedule (suc k) = left-scheduled k (sum_of (drop (suc k) principals)) (omega (arith, on-schedule k, sum_drop principals k))

  pub returned : length principals ≤ buckets → sum (λ k. paid_at rate principals k + prepaid_at rate principals k) buckets ≡ sum_of principals
  unfolding scheduled_at total
  returned h = omega (arith, taken-so-far buckets, on-schedule buckets, ap sum_of (drop_of_length-le principals h))

  -- ---- prepayment is by the year

  -- a bucket's is at most its width's part of the opening principal
  prepaid-here : (k : ℕ) → whole_year * prepaid_at rate principals k ≤ sum_of principals * rate * width k
  unfolding prepaid_at prepaid
  prepaid-here k =
      let most : outstanding_at rate principals k ≤ sum_of principals = omega (arith, taken-so-far k) in
      omega (arith, mul-le-mul_right (width k) (mul-le-mul_right rate most))

  -- and so are those of the first buckets together, of all their months
  pub prepaid-so-far : (n : ℕ) → whole_year * sum (prepaid_at rate principals) n ≤ sum_of principals * rate * sum (λ k. width k) n
  unfolding sum
  prepaid-so-far zero = omega arith
  prepaid-so-far (suc n) =
      omega (arith, prepaid-so-far n, prepaid-here n, mul-add (sum_of principals * rate) (sum (λ k. width k) n) (width n))

  -- buckets 1 to 6 are a year
  pub within-a-year : whole_rate * sum (prepaid_at rate principals) 6 ≤ sum_of principals * rate
  unfolding sum widths
  within-a-year = omega (arith, prepaid-so-far 6)

  pub none-overnight : prepaid_at rate principals 0 ≡ 0
  unfolding prepaid_at prepaid widths
  none-overnight = omega arith

  -- in bucket 19 all that is outstanding is scheduled, so its width changes no flow
  pub none-in-last : length principals ≤ buckets → prepaid_at rate principals 18 ≡ 0
  unfolding prepaid_at prepaid paid scheduled_at total
  none-in-last h = omega (arith, on-schedule 18, sum_drop principals 18, ap sum_of (drop_of_length-le principals h))

-- a year at the whole rate asks for the whole balance
pub whole-in-a-year : (outstanding : ℕ) → prepaid whole_rate 12 0 outstanding ≡ outstanding
unfolding prepaid paid
whole-in-a-year outstanding = omega arith

-- the opening principal comes back whatever the share and the scenario
pub loan-returns : (share i : ℕ) (principals : List ℕ) → length principals ≤ buckets
    → sum (λ k. paid_at (prepayment_rate share i) principals k + prepaid_at (prepayment_rate share i) principals k) buckets ≡ sum_of principals
loan-returns share i principals h = returned (prepayment_rate share i) principals h

scaled-down : (x o s : ℕ) → o ≤ s → interest x o s ≤ x
unfolding interest
scaled-down x o s h = by (x is 0)
  where
    by : (b : Bool) → (if b then 0 else x * o / s) ≤ x
    by true = omega arith
    by false = div-le_of_le-mul s (omega (arith, mul-le-mul_left x h))

pub interest-at-most : (rate : ℕ) (principals interests : List ℕ) (k : ℕ) → interest_at rate principals interests k ≤ get_or interests k 0
unfolding interest_at
interest-at-most rate principals interests k = scaled-down _ _ _ (on-schedule rate principals k)
