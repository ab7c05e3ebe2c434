-- A report over few currencies, widened, is the report over more of a book that names none above them.
use Prim.Native.Nat.{ℕ, suc, ◌+◌, ◌*◌, ◌-◌, ◌/◌, ◌%◌, ◌≤◌, ◌<◌}
use mathlib.Core.Bool.{false}
use mathlib.Core.List.{List, [], ◌∷◌, ◌++◌, append_assoc}
use mathlib.Core.Path.{◌≡◌, sym, ap, ap₂, ◌∙◌}
use native.Mathlib.Omega.{arith}
use lib.IntN.{ℤ, pos}
use lib.ListN.{length, replicate}
use lib.Seq.{take-append_seam, drop-append_seam}
use Rattle.laws.specs.Integers.{up}
use Rattle.laws.specs.Lists.{tabulate_from}
use Rattle.laws.proofs.Sums.{sum-rest, greatest-ext}
use Rattle.laws.proofs.Lists.{tabulate-length, tabulate_from-ext, tabulate_from-const, tabulate_from-parts}
use Rattle.paper.specs.Refusals.{accepted}
use Rattle.paper.specs.Records.{Record}
use Rattle.paper.specs.Ledger.{totals}
use Rattle.paper.specs.TurnedDown.{room_too_small}
use Rattle.paper.specs.Change.{change, tolerance}
use Rattle.paper.specs.Verdict.{scenario_sum, measure, worst, total_tolerance, verdict, verdict_number, changes_of, report_from, report_of}
use Rattle.paper.specs.Book.{outcome}
use Rattle.paper.specs.Stored.{widened, above}
use Rattle.paper.proofs.ReportList.{measure-by-sums, worst-by-sums, sums-listed}
use Rattle.paper.proofs.EmptyCurrency.{unused-change, unused-tolerance}
use Rattle.paper.proofs.OtherTop.{above-less, unused-above, accepted-within, outcome-other}

-- ---- a report in two parts: the changes, and the last ten

ten_of : ℕ → (ℕ → ℕ → ℤ) → ℕ → ℕ → List ℤ
ten_of n changes u T =
    tabulate_from (λ i. pos (scenario_sum n changes i)) 1 6
    ++ (pos (measure n changes) ∷ pos (worst n changes) ∷ pos u ∷ pos (verdict_number (verdict (measure n changes) u T)) ∷ [])

in_two : (n : ℕ) (changes : ℕ → ℕ → ℤ) (u T : ℕ) → report_from n changes u T ≡ changes_of n changes ++ ten_of n changes u T
unfolding report_from ten_of
in_two n changes u T = append_assoc (changes_of n changes) _ _

changes-long : (n : ℕ) (changes : ℕ → ℕ → ℤ) → length (changes_of n changes) ≡ 6 * n
unfolding changes_of
changes-long n changes = tabulate-length _ (6 * n)

-- widened where the one ends and the other begins
widened-parts : (few top : ℕ) (own ten : List ℤ) → length own ≡ 6 * few → widened few top (own ++ ten) ≡ own ++ (replicate (6 * (top - few)) (pos 0) ++ ten)
unfolding widened
widened-parts few top own ten e = rw (sym e, take-append_seam own ten, drop-append_seam own ten)

module _ (few top : ℕ) (l : few ≤ top) where
  -- ---- changes that are nil above the few

  module _ (changes : ℕ → ℕ → ℤ) (nil : (c i : ℕ) → few < c → changes c i ≡ pos 0) where
    sums-stay : (i : ℕ) → 1 ≤ i → i ≤ 6 → scenario_sum few changes i ≡ scenario_sum top changes i
    unfolding scenario_sum
    sums-stay i _ _ =
        sym (sum-rest (λ c. up (changes (suc c) i)) few top l (λ k m _. ap up (nil (suc k) i (omega arith))))

    changes-wider : changes_of top changes ≡ changes_of few changes ++ replicate (6 * (top - few)) (pos 0)
    unfolding changes_of
    changes-wider =
        let long : 6 * top ≡ 6 * few + 6 * (top - few) = omega arith in
        let others : tabulate_from (λ j. changes (suc (j / 6)) (suc (j % 6))) (0 + 6 * few) (6 * (top - few)) ≡ replicate (6 * (top - few)) (pos 0) =
        tabulate_from-ext _ (λ _. pos 0) (0 + 6 * few) (6 * (top - few)) (λ j m _. nil (suc (j / 6)) (suc (j % 6)) (omega arith)) ∙ tabulate_from-const (pos 0) (0 + 6 * few) (6 * (top - few))
        in
        ap (tabulate_from (λ j. changes (suc (j / 6)) (suc (j % 6))) 0) long ∙ tabulate_from-parts _ 0 (6 * few) (6 * (top - few)) ∙ ap (λ (rest : List ℤ). changes_of few changes ++ rest) others

    ten-stays : (u T : ℕ) → ten_of few changes u T ≡ ten_of top changes u T
    unfolding ten_of
    ten-stays u T = rw (measure-by-sums few top changes changes sums-stay, worst-by-sums few top changes changes sums-stay, sums-listed few top changes changes sums-stay)

    wider-from : (u T : ℕ) → widened few top (report_from few changes u T) ≡ report_from top changes u T
    wider-from u T =
        ap (widened few top) (in_two few changes u T)
        ∙ widened-parts few top (changes_of few changes) (ten_of few changes u T) (changes-long few changes)
        ∙ sym (append_assoc (changes_of few changes) (replicate (6 * (top - few)) (pos 0)) (ten_of few changes u T))
        ∙ ap₂ ◌++◌ (sym changes-wider) (ten-stays u T)
        ∙ sym (in_two top changes u T)

  -- ---- a book that names no currency above the few

  module _ (kept : List Record) (none : above few kept ≡ false) where
    tolerance-stays : total_tolerance few (tolerance (totals kept)) ≡ total_tolerance top (tolerance (totals kept))
    unfolding total_tolerance
    tolerance-stays =
        greatest-ext _ _ 6 (λ i _ _.
        sym (sum-rest (λ c. tolerance (totals kept) (suc c) i) few top l (λ k m _. unused-tolerance kept (suc k) (unused-above few (suc k) (omega arith) kept none) i)))

    pub report-wider : (T : ℕ) → widened few top (report_of few (totals kept) T) ≡ report_of top (totals kept) T
    unfolding report_of
    report-wider T =
        wider-from (change (totals kept)) (λ c i m. unused-change kept c (unused-above few c m kept none) i) _ T
        ∙ ap (λ (u : ℕ). report_from top (change (totals kept)) u T) tolerance-stays

  -- what was accepted over the few is accepted over more, as the same records, and its stored report widened is the one that a fresh run gives
  module _ (book : List ℕ) (T report_room ledger_room : ℕ) (kept : List Record) (e : outcome few book T report_room ledger_room ≡ accepted kept) where
    pub stored-accepted : (other_report other_ledger : ℕ) → room_too_small top other_report other_ledger ≡ false → outcome top book T other_report other_ledger ≡ accepted kept
    stored-accepted other_report other_ledger =
        outcome-other few book T report_room ledger_room kept e top other_report other_ledger (above-less few top l kept (accepted-within few book T report_room ledger_room kept e))

    pub stored-widened : widened few top (report_of few (totals kept) T) ≡ report_of top (totals kept) T
    stored-widened = report-wider kept (accepted-within few book T report_room ledger_room kept e) T
