-- Kinds 4 and 6: the flows of a deposit add up to its total, those of a term deposit to its amounts, under every scenario.
use Prim.Native.Nat.{ℕ, ◌+◌, ◌-◌, ◌≤◌}
use mathlib.Core.List.{List}
use mathlib.Core.Path.{◌≡◌}
use native.Mathlib.Nat.{mul-le-mul_left}
use native.Mathlib.Omega.{arith}
use lib.ListN.{get_or, length}
use Rattle.std.specs.Prelude.{if◌then◌else◌}
use Rattle.laws.specs.Tests.{◌is◌}
use Rattle.laws.specs.Sums.{sum, total, sum_of}
use Rattle.laws.proofs.Sums.{sum-ext, sum-add, sum_one}
use Rattle.laws.proofs.Totals.{sum-list, sum-get_or}
use Rattle.paper.specs.Ladder.{buckets}
use Rattle.paper.specs.Behaviour.{deposit_flow, whole_rate, behavioural_rate, withdrawal_rate, moved, term_deposit_flow}

pub deposit-adds-up : (whole : ℕ) (core : List ℕ) → length core ≤ buckets → sum_of core ≤ whole → sum (deposit_flow whole core) buckets ≡ whole
unfolding deposit_flow
deposit-adds-up whole core h l =
    omega (
      arith,
      sum-add (λ k. get_or core k 0) (λ k. if k is 0 then whole - sum_of core else 0) buckets,
      sum-get_or core buckets h,
      sum_one (whole - sum_of core) buckets 0 (omega arith),
    )

-- no more moves than is there
pub moved-at-most : (rate amount : ℕ) → rate ≤ whole_rate → moved rate amount ≤ amount
unfolding moved
moved-at-most rate amount h = omega (arith, mul-le-mul_left amount h)

pub moved-nil : (rate : ℕ) → moved rate 0 ≡ 0
unfolding moved
moved-nil rate = omega arith

pub moves-add-up : (rate : ℕ) (amounts : List ℕ) → rate ≤ whole_rate → length amounts ≤ buckets → sum (term_deposit_flow rate amounts) buckets ≡ sum_of amounts
unfolding term_deposit_flow
moves-add-up rate amounts h l =
    let stays : ℕ → ℕ = λ k. get_or amounts k 0 - moved rate (get_or amounts k 0) in
    let goes : ℕ → ℕ = λ k. moved rate (get_or amounts k 0) in
    omega (
      arith,
      sum-add stays (λ k. if k is 0 then total (moved rate) amounts else 0) buckets,
      sum_one (total (moved rate) amounts) buckets 0 (omega arith),
      sum-list (moved rate) (moved-nil rate) amounts buckets l,
      sum-get_or amounts buckets l,
      sum-ext (λ k. get_or amounts k 0) (λ k. stays k + goes k) buckets (λ k _. omega (arith, moved-at-most rate (get_or amounts k 0) h)),
      sum-add stays goes buckets,
    )

pub rate-at-most : (multipliers : List ℕ) (share i : ℕ) → behavioural_rate multipliers share i ≤ whole_rate
unfolding behavioural_rate
rate-at-most multipliers share i = omega arith

pub term-deposit-adds-up : (share i : ℕ) (amounts : List ℕ) → length amounts ≤ buckets
    → sum (term_deposit_flow (withdrawal_rate share i) amounts) buckets ≡ sum_of amounts
term-deposit-adds-up share i amounts l = moves-add-up (withdrawal_rate share i) amounts (rate-at-most _ share i) l
