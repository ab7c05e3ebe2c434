-- Whole periods by a product: a period's share of 65,536, rounded up, gives the quotient of every number of months that there is.
use Prim.Native.Nat.{ℕ, suc, ◌*◌, ◌/◌, ◌≤◌, ◌<◌}
use mathlib.Core.Bool.{Bool, true, ◌&&◌}
use mathlib.Core.Path.{◌≡◌, refl}
use native.Mathlib.Omega.{arith}
use borrow.Author.Tests.{eqb-true, leb-true}
use Rattle.laws.specs.Tests.{◌is◌, ◌up_to◌, all}
use Rattle.laws.proofs.Tests.{and-true, all-at}
use Rattle.due.specs.Schedules.{month_ends}
use Rattle.due.proofs.Periods.{ends}
use Rattle.due.proofs.PeriodShare.{share}

abbrev divides : ℕ → Bool
divides period = share period up_to 65536 && all (λ m. m * share period / 65536 is m / period) 0 602

tested : all divides 1 12 ≡ true
unfolding all
tested = refl

module _ (period : ℕ) (some : 1 ≤ period) (year : period ≤ 12) where
  both : (share period up_to 65536 ≡ true) × (all (λ m. m * share period / 65536 is m / period) 0 602 ≡ true)
  both = and-true (share period up_to 65536) _ (all-at divides 1 12 tested period some (omega arith))

  pub share-most : share period ≤ 65536
  share-most = leb-true (share period) 65536 both.0

  pub by-share : (m : ℕ) → m ≤ 601 → m * share period / 65536 ≡ m / period
  by-share m l =
      eqb-true (m * share period / 65536) (m / period)
      (all-at (λ n. n * share period / 65536 is n / period) 0 602 both.1 m (omega arith) (omega arith))

-- no end is past month 601
up-to : all (λ k. ends (suc k) up_to 601) 0 19 ≡ true
unfolding month_ends all
up-to = refl

pub end-most : (k : ℕ) → k < 19 → ends (suc k) ≤ 601
end-most k l = leb-true (ends (suc k)) 601 (all-at (λ i. ends (suc i) up_to 601) 0 19 up-to k (omega arith) l)
