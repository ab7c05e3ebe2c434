-- Kinds 4 and 6: rows of deposits.
use Prim.Native.Nat.{ℕ, ◌+◌, ◌*◌, ◌-◌, ◌≤◌}
use mathlib.Core.List.{List}
use mathlib.Core.Path.{◌≡◌, ap₂, ◌∙◌}
use native.Mathlib.Omega.{arith}
use lib.ListN.{length, get_or, set}
use Rattle.std.specs.Prelude.{if◌then◌else◌}
use Rattle.laws.specs.Tests.{◌is◌}
use Rattle.laws.specs.Sums.{sum, sum_of}
use Rattle.laws.specs.Lists.{tabulate}
use Rattle.laws.proofs.Sums.{sum-most}
use Rattle.laws.proofs.Totals.{sum-list}
use Rattle.paper.specs.Scales.{billion}
use Rattle.paper.specs.Ladder.{buckets}
use Rattle.paper.specs.Behaviour.{whole_rate, deposit_flow, moved, term_deposit_flow}
use Rattle.paper.proofs.Deposits.{moved-at-most, moved-nil}
use Rattle.laws.proofs.Filling.{Filled}
use Rattle.posting.specs.Parts.{AtMost}
use Rattle.posting.proofs.Loops.{raised}

-- ---- kind 4

-- each core amount, and in bucket 1 the rest besides
pub core-row : (whole : ℕ) (core row : List ℕ) (rest : ℕ) → length row ≡ buckets → Filled 0 buckets (λ j. get_or core j 0) row → rest ≡ whole - sum_of core
    → set row 0 (get_or row 0 0 + rest) ≡ tabulate (deposit_flow whole core) buckets
unfolding deposit_flow
core-row whole core row rest long core-in e = raised _ row buckets 0 rest long core-in (omega arith) ∙ rw e

-- ---- kind 6

pub moved-few : (rate : ℕ) (amounts : List ℕ) (n : ℕ) → rate ≤ whole_rate → AtMost billion amounts → sum (λ j. moved rate (get_or amounts j 0)) n ≤ n * billion
moved-few rate amounts n h small = sum-most _ n billion (λ j _. omega (arith, moved-at-most rate (get_or amounts j 0) h, small j))

-- what stays of an amount, and in bucket 1 all that moved
pub withdrawn-here : (rate : ℕ) (amounts : List ℕ) (k : ℕ) {stays early : ℕ} → length amounts ≤ buckets → stays ≡ get_or amounts k 0 - moved rate (get_or amounts k 0)
    → early ≡ sum (λ j. moved rate (get_or amounts j 0)) buckets → stays + (if k is 0 then early else 0) ≡ term_deposit_flow rate amounts k
unfolding term_deposit_flow
withdrawn-here rate amounts k few s e =
    ap₂ (λ (x y : ℕ). x + (if k is 0 then y else 0)) s (e ∙ sum-list (moved rate) (moved-nil rate) amounts buckets few)
