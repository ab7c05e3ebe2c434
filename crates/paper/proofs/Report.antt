-- The report read number by number.
use Prim.Native.Nat.{ℕ, ◌+◌, ◌*◌, ◌-◌, ◌≤◌}
use mathlib.Core.List.{List, [], ◌∷◌, ◌++◌, append_assoc}
use mathlib.Core.Path.{◌≡◌, sym, ap, ◌∙◌}
use native.Mathlib.Omega.{arith}
use lib.IntN.{ℤ, pos}
use lib.ListN.{length, get_or, get_or-append}
use lib.Seq.{get_or-append-add}
use Rattle.laws.specs.Lists.{tabulate_from}
use Rattle.laws.proofs.Lists.{tabulate-length, tabulate_from-length, tabulate_from-at}
use Rattle.paper.specs.Verdict.{scenario_sum, measure, worst, verdict, verdict_number, changes_of, change_at, report_from, sum_at, measure_at, worst_at, tolerance_at, verdict_at}
use Rattle.paper.proofs.ReportList.{change-at}

-- a number past the first of two lists
past : (xs ys : List ℤ) (n j : ℕ) → length xs ≡ n → get_or (xs ++ ys) (n + j) (pos 0) ≡ get_or ys j (pos 0)
past xs ys n j e = ap (λ (m : ℕ). get_or (xs ++ ys) (m + j) (pos 0)) (sym e) ∙ get_or-append-add xs ys j (pos 0)

-- the three pieces of the report: the changes, the sums, the last four
module _ (top : ℕ) (changes : ℕ → ℕ → ℤ) (u T : ℕ) where
  abbrev pub report : List ℤ
  report = report_from top changes u T

  sum_of' : ℕ → ℤ
  sum_of' i = pos (scenario_sum top changes i)

  sums : List ℤ
  sums = tabulate_from sum_of' 1 6

  last_four : List ℤ
  last_four = pos (measure top changes) ∷ pos (worst top changes) ∷ pos u ∷ pos (verdict_number (verdict (measure top changes) u T)) ∷ []

  pieces : report ≡ changes_of top changes ++ (sums ++ last_four)
  unfolding report_from sums sum_of' last_four
  pieces = append_assoc (changes_of top changes) sums last_four

  long : length (changes_of top changes) ≡ 6 * top
  unfolding changes_of
  long = tabulate-length _ (6 * top)

  six : length sums ≡ 6
  unfolding sums
  six = tabulate_from-length sum_of' 1 6

  pub change-reported : (c i : ℕ) → 1 ≤ c → c ≤ top → 1 ≤ i → i ≤ 6 → get_or report (change_at c i) (pos 0) ≡ changes c i
  change-reported c i l h p m =
      rw pieces
      (get_or-append (changes_of top changes) (sums ++ last_four) (pos 0) (change_at c i) (omega (arith, long)) ∙ change-at top changes c i l h p m)

  pub sum-reported : (i : ℕ) → 1 ≤ i → i ≤ 6 → get_or report (sum_at top i) (pos 0) ≡ pos (scenario_sum top changes i)
  unfolding sums sum_of'
  sum-reported i p m =
      let same : 1 + (i - 1) ≡ i = omega arith in
      rw pieces
      (past (changes_of top changes) (sums ++ last_four) (6 * top) (i - 1) long
      ∙ get_or-append sums last_four (pos 0) (i - 1) (omega (arith, six))
      ∙ tabulate_from-at sum_of' 1 6 (i - 1) (pos 0) (omega arith)
      ∙ ap sum_of' same)

  last : (j : ℕ) → get_or report (6 * top + (6 + j)) (pos 0)
      ≡ get_or (pos (measure top changes) ∷ pos (worst top changes) ∷ pos u ∷ pos (verdict_number (verdict (measure top changes) u T)) ∷ []) j (pos 0)
  unfolding last_four
  last j =
      rw pieces (past (changes_of top changes) (sums ++ last_four) (6 * top) (6 + j) long ∙ past sums last_four 6 j six)

  pub measure-reported : get_or report (measure_at top) (pos 0) ≡ pos (measure top changes)
  measure-reported = last 0

  pub worst-reported : get_or report (worst_at top) (pos 0) ≡ pos (worst top changes)
  worst-reported = last 1

  pub tolerance-reported : get_or report (tolerance_at top) (pos 0) ≡ pos u
  tolerance-reported = last 2

  pub verdict-reported : get_or report (verdict_at top) (pos 0) ≡ pos (verdict_number (verdict (measure top changes) u T))
  verdict-reported = last 3
