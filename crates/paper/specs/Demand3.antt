-- Demand 3: against exact arithmetic each reported number lies within its stated tolerance, so "over" and "within" are said only where true,
-- and "close" exactly where the tolerance reaches the line.
use Rattle.std.specs.Prelude.{ℕ, ◌*◌, ◌≤◌, List, ◌⊎◌, ◌↔◌, ◌≡◌, ℤ, pos, ◌+ℤ◌, ◌-ℤ◌, ◌*ℤ◌, get_or, ◌≤ℤ◌, ◌<ℤ◌}
use Rattle.laws.specs.Ratio.{whole, ◌*ℚ◌, ◌≤ℚ◌, ◌<ℚ◌, Within}
use Rattle.paper.specs.Ledger.{Totals}
use Rattle.paper.specs.Change.{tolerance}
use Rattle.paper.specs.Verdict.{over_currencies, total_tolerance, change_at, sum_at, measure_at, tolerance_at, verdict_at}
use Rattle.paper.specs.Exact.{exact_change, exact_sum, exact_measure}

abbrev pub figure : List ℤ → ℕ → ℤ
figure report j = get_or report j (pos 0)

-- of a report on totals t, at Tier 1 capital T
pub record Demand3 (top : ℕ) (t : Totals) (T : ℕ) (report : List ℤ) : Type 0 where
  pub changes : (c i : ℕ) → 1 ≤ c → c ≤ top → 1 ≤ i → i ≤ 6
      → Within (tolerance t c i) (figure report (change_at c i)) (exact_change t c i)
  pub sums : (i : ℕ) → 1 ≤ i → i ≤ 6 → Within (over_currencies top (λ c. tolerance t c i)) (figure report (sum_at top i)) (exact_sum top t i)
  pub measure : Within (total_tolerance top (tolerance t)) (figure report (measure_at top)) (exact_measure top t)
  pub stated : figure report (tolerance_at top) ≡ pos (total_tolerance top (tolerance t))
  -- the verdict is one of the three
  pub one_of_three : (figure report (verdict_at top) ≡ pos 1) ⊎ (figure report (verdict_at top) ≡ pos 2) ⊎ (figure report (verdict_at top) ≡ pos 3)
  -- 1 over: 100 times the exact measure is above 15T
  pub over : figure report (verdict_at top) ≡ pos 1 → whole (pos (15 * T)) <ℚ (pos 100 *ℚ exact_measure top t)
  -- 2 within: it is at most 15T
  pub within : figure report (verdict_at top) ≡ pos 2 → (pos 100 *ℚ exact_measure top t) ≤ℚ whole (pos (15 * T))
  -- 3 close: the tolerance reaches the line
  pub close : figure report (verdict_at top) ≡ pos 3
      ↔ ((pos 100 *ℤ (figure report (measure_at top) -ℤ figure report (tolerance_at top))) ≤ℤ (pos 15 *ℤ pos T))
      × ((pos 15 *ℤ pos T) <ℤ (pos 100 *ℤ (figure report (measure_at top) +ℤ figure report (tolerance_at top))))
