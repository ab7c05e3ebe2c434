-- Kinds 4 to 6: a bound of each flow, and the record's flows and magnitudes.
use Prim.Native.Nat.{ℕ, ◌*◌, ◌≤◌, ◌<◌}
use mathlib.Core.List.{List}
use mathlib.Core.Path.{◌≡◌, refl}
use native.Mathlib.Nat.{le_refl}
use native.Mathlib.Omega.{arith}
use lib.IntN.{pos}
use lib.ListN.{length, get_or}
use Rattle.laws.specs.Sums.{sum, sum_of}
use Rattle.laws.proofs.Sums.{sum-most, sum-upto}
use Rattle.laws.proofs.Totals.{sum-get_or}
use Rattle.paper.specs.Scales.{billion}
use Rattle.paper.specs.Ladder.{buckets}
use Rattle.paper.specs.Records.{loan, term_deposit, flows}
use Rattle.paper.specs.Behaviour.{whole_rate, deposit_flow, prepayment_rate, loan_flow, withdrawal_rate, term_deposit_flow}
use Rattle.paper.specs.Flow.{sided, flow_of, flow, magnitude}
use Rattle.paper.specs.Sound.{SoundFlows}
use Rattle.paper.proofs.Deposits.{deposit-adds-up, moves-add-up}
use Rattle.posting.specs.Parts.{AtMost}
use Rattle.behaviour.specs.Rows.{SoundSchedule}
use Rattle.behaviour.proofs.AmountRange.{amounts-small}
use Rattle.behaviour.proofs.Prepayment.{loan-sum}

-- ---- kind 4

pub core-small : (whole : ℕ) (core : List ℕ) → length core ≤ buckets → sum_of core ≤ whole → (k : ℕ) → k < buckets → deposit_flow whole core k ≤ whole
core-small whole core few within k l = omega (arith, sum-upto (deposit_flow whole core) k buckets l, deposit-adds-up whole core few within)

-- ---- kind 5

module _ (c share : ℕ) (principals interests : List ℕ) where
  pub loan-flow : (i k : ℕ) → sided 1 (pos (loan_flow (prepayment_rate share i) principals interests k)) ≡ flow (flows c (loan share principals interests)) i k
  unfolding sided flow flow_of
  loan-flow i k = refl

  pub loan-size : (i : ℕ) → sum (loan_flow (prepayment_rate share i) principals interests) buckets ≡ magnitude (flows c (loan share principals interests)) i
  unfolding magnitude flow flow_of
  loan-size i = refl

-- each flow is within its scenario's sum, and that within what is scheduled
pub loan-small : (principals interests : List ℕ) → length interests ≤ buckets → SoundSchedule principals interests → (rate : ℕ)
    → (sum (loan_flow rate principals interests) buckets ≤ billion) × ((k : ℕ) → k < buckets → loan_flow rate principals interests k ≤ billion)
loan-small principals interests few sound rate =
    let all = loan-sum rate principals interests buckets (le_refl buckets) few in
    (omega (arith, sound.all_small), λ k l. omega (arith, all, sum-upto (loan_flow rate principals interests) k buckets l, sound.all_small))

pub schedule-of : (share : ℕ) (principals interests : List ℕ) → SoundFlows (loan share principals interests) → SoundSchedule principals interests
unfolding SoundFlows
schedule-of share principals interests h = record { principals-small = amounts-small h.1; interests-small = amounts-small h.2; none-alone = h.3; all_small = h.4 }

-- ---- kind 6

pub amounts-most : (amounts : List ℕ) → length amounts ≤ buckets → AtMost billion amounts → sum_of amounts ≤ buckets * billion
amounts-most amounts few small = rw (← sum-get_or amounts buckets few) (sum-most (λ k. get_or amounts k 0) buckets billion (λ k _. small k))

pub withdrawn-small : (rate : ℕ) (amounts : List ℕ) → rate ≤ whole_rate → length amounts ≤ buckets → (k : ℕ) → k < buckets → term_deposit_flow rate amounts k ≤ sum_of amounts
withdrawn-small rate amounts h few k l = omega (arith, sum-upto (term_deposit_flow rate amounts) k buckets l, moves-add-up rate amounts h few)

pub withdrawn-flow : (c share : ℕ) (amounts : List ℕ) (i k : ℕ)
    → sided 2 (pos (term_deposit_flow (withdrawal_rate share i) amounts k)) ≡ flow (flows c (term_deposit share amounts)) i k
unfolding sided flow flow_of
withdrawn-flow c share amounts i k = refl
