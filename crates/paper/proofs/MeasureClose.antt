-- Sums and the measure: each is within its own tolerance of the exact one.
use Prim.Native.Nat.{ℕ, suc, ◌<◌}
use native.Mathlib.Omega.{arith}
use lib.IntN.{pos}
use Rattle.laws.specs.Integers.{up}
use Rattle.laws.specs.Ratio.{positive, Within}
use Rattle.laws.proofs.Sums.{at_most}
use Rattle.laws.proofs.Ratio.{within-sum-nat, within_wider}
use Rattle.laws.proofs.Greatest.{within-positive, within-greatest}
use Rattle.paper.specs.Flow.{scenarios}
use Rattle.paper.specs.Ledger.{Totals}
use Rattle.paper.specs.Change.{change, tolerance}
use Rattle.paper.specs.Verdict.{over_currencies, scenario_sum, measure, total_tolerance}
use Rattle.paper.specs.Exact.{exact_change, exact_sum, exact_measure}
use Rattle.paper.proofs.ChangeClose.{Rated, change-close}

module _ (top : ℕ) (t : Totals) (rated : Rated t) where
  -- a scenario's sum, within its tolerances added over currencies
  pub sum-close : (i : ℕ) → i < scenarios → Within (over_currencies top (λ c. tolerance t c i)) (pos (scenario_sum top (change t) i)) (exact_sum top t i)
  unfolding scenario_sum exact_sum
  sum-close i l =
      within-sum-nat (λ c. tolerance t (suc c) i) (λ c. up (change t (suc c) i)) (λ c. positive (exact_change t (suc c) i)) top
      (λ c _. within-positive (change-close t rated (suc c) i l))

  -- the measure, within the total tolerance
  pub measure-close : Within (total_tolerance top (tolerance t)) (pos (measure top (change t))) (exact_measure top t)
  unfolding total_tolerance measure exact_measure
  measure-close =
      within-greatest (total_tolerance top (tolerance t)) (scenario_sum top (change t)) (exact_sum top t) 6
      (λ i p l. within_wider (at_most (λ j. over_currencies top (λ c. tolerance t c j)) 6 i p l) (sum-close i (omega arith)))

  pub measure-proper : 0 < (exact_measure top t).den
  measure-proper = measure-close.proper
