-- From changes to the verdict (001, step 5; SRP31.82 for the 15 per cent). The rules are over any changes by currency and scenario.
use Rattle.std.specs.Prelude.{ℕ, suc, ◌+◌, ◌*◌, ◌-◌, ◌/◌, ◌%◌, List, [], ◌∷◌, ◌++◌, ℤ, pos, ◌+ℤ◌, ◌-ℤ◌, ◌*ℤ◌, if◌then◌else◌}
use Rattle.std.specs.Int.Signed.{lt_z, le_z}
use Rattle.laws.specs.Tests.{◌is◌, first}
use Rattle.laws.specs.Integers.{up}
use Rattle.laws.specs.Sums.{sum, greatest}
use Rattle.laws.specs.Lists.{tabulate, tabulate_from}
use Rattle.paper.specs.declared.Verdict.{Verdict}
use Rattle.paper.specs.declared.Verdict.TheVariants.{Over, Within, Close}
use Rattle.paper.specs.Ledger.{Totals}
use Rattle.paper.specs.Change.{change, tolerance}

module _ (top : ℕ) where
  -- over currencies, the first to the last
  abbrev pub over_currencies : (ℕ → ℕ) → ℕ
  over_currencies f = sum (λ c. f (suc c)) top

  -- a scenario's sum adds the positive changes over currencies
  unfoldable pub scenario_sum : (ℕ → ℕ → ℤ) → ℕ → ℕ
  scenario_sum changes i = over_currencies (λ c. up (changes c i))

  -- the greatest of the six
  unfoldable pub measure : (ℕ → ℕ → ℤ) → ℕ
  measure changes = greatest (scenario_sum changes) 6

  -- the smallest scenario number that reaches it, 0 if the measure is 0
  unfoldable pub worst : (ℕ → ℕ → ℤ) → ℕ
  worst changes = if measure changes is 0 then 0 else first (λ i. scenario_sum changes i is measure changes) 1 6

  -- the greatest over scenarios of the tolerances added over currencies
  unfoldable pub total_tolerance : (ℕ → ℕ → ℕ) → ℕ
  total_tolerance tolerances = greatest (λ i. over_currencies (λ c. tolerances c i)) 6

-- against Tier 1 capital T, with the measure m and the total tolerance u: over if 100(m - u) > 15T, within if 100(m + u) <= 15T
unfoldable pub verdict : ℕ → ℕ → ℕ → Verdict
verdict m u T =
    if lt_z (pos 15 *ℤ pos T) (pos 100 *ℤ (pos m -ℤ pos u)) then Over else
    if le_z (pos 100 *ℤ (pos m +ℤ pos u)) (pos 15 *ℤ pos T) then Within else
    Close

unfoldable pub verdict_number : Verdict → ℕ
verdict_number Over = 1
verdict_number Within = 2
verdict_number Close = 3

-- ---- the report: the changes, currency by currency, 6 sums, measure, worst, total tolerance, verdict

unfoldable pub changes_of : ℕ → (ℕ → ℕ → ℤ) → List ℤ
changes_of top changes = tabulate (λ j. changes (suc (j / 6)) (suc (j % 6))) (6 * top)

unfoldable pub report_from : ℕ → (ℕ → ℕ → ℤ) → ℕ → ℕ → List ℤ
report_from top changes u T =
    let m = measure top changes in
    changes_of top changes
    ++ tabulate_from (λ i. pos (scenario_sum top changes i)) 1 6
    ++ (pos m ∷ pos (worst top changes) ∷ pos u ∷ pos (verdict_number (verdict m u T)) ∷ [])

unfoldable pub report_of : ℕ → Totals → ℕ → List ℤ
report_of top t T = report_from top (change t) (total_tolerance top (tolerance t)) T

-- where each number stands in it
abbrev pub change_at : ℕ → ℕ → ℕ
change_at c i = 6 * (c - 1) + (i - 1)

abbrev pub sum_at : ℕ → ℕ → ℕ
sum_at top i = 6 * top + (i - 1)

abbrev pub measure_at : ℕ → ℕ
measure_at top = 6 * top + 6

abbrev pub worst_at : ℕ → ℕ
worst_at top = 6 * top + 7

abbrev pub tolerance_at : ℕ → ℕ
tolerance_at top = 6 * top + 8

abbrev pub verdict_at : ℕ → ℕ
verdict_at top = 6 * top + 9
