-- The report's numbers line by line: those of one line stand side by side in it, and how many bytes the lines are.
use Prim.Native.Nat.{ℕ, ◌+◌, ◌*◌, ◌-◌, ◌≤◌}
use mathlib.Core.Bool.{Bool}
use mathlib.Core.List.{List, [], ◌∷◌, ◌++◌}
use mathlib.Core.Path.{◌≡◌, ap, ◌∙◌}
use native.Mathlib.Omega.{arith}
use lib.IntN.{ℤ, pos}
use lib.ListN.{length, get_or, length-append}
use Rattle.laws.specs.Lists.{tabulate_from, section}
use Rattle.laws.proofs.Lists.{tabulate_from-is}
use Rattle.laws.proofs.Sections.{length-section, section-at}
use Rattle.paper.specs.Records.{currencies}
use Rattle.paper.specs.Ledger.{figures}
use Rattle.paper.specs.Verdict.{sum_at, measure_at, worst_at, tolerance_at, verdict_at}
use Rattle.paper.specs.Program.{line, changes_line, curved_lines, verdict_word, report_text}
use Rattle.text.specs.Longest.{longest_text}
use Rattle.text.proofs.Items.{line-length}
use Rattle.text.proofs.Words.{verdict-length}
use Rattle.text.proofs.CurvedLines.{lines-length}

pub side_by_side : (report : List ℤ) (a n : ℕ) → a + n ≤ length report
    → section a n report ≡ tabulate_from (λ i. get_or report (a + (i - 1)) (pos 0)) 1 n
side_by_side report a n h =
    tabulate_from-is (pos 0) (section a n report) (λ i. get_or report (a + (i - 1)) (pos 0)) 1 n (length-section a n report h)
    (λ k l. section-at a n report k (pos 0) l ∙ ap (λ (j : ℕ). get_or report (a + j) (pos 0)) (omega arith))

pub changes-length : (report : List ℤ) (c : ℕ) → length (changes_line report c) ≤ 156
unfolding tabulate_from
changes-length report c = line-length 67 _

-- the lines of `report_text` but the last, as the code lists them: what it asks of the buffer at each
pub record LineLengths (curved : ℕ → Bool) (report : List ℤ) : Type 0 where
  pub changes : length (curved_lines curved (changes_line report) currencies) ≤ 156 * currencies
  pub six : length (section (6 * currencies) 6 report) ≡ 6
  pub sums : length (line 83 (section (6 * currencies) 6 report)) ≤ 134
  pub three : length (section (measure_at currencies) 3 report) ≡ 3
  pub measures : length (line 77 (section (measure_at currencies) 3 report)) ≤ 68

pub line-lengths : (curved : ℕ → Bool) (report : List ℤ) → length report ≡ figures currencies → LineLengths curved report
line-lengths curved report e =
    let six = length-section (6 * currencies) 6 report (omega arith) in
    let three = length-section (measure_at currencies) 3 report (omega arith) in
    record {
      changes = lines-length curved (changes_line report) 156 (λ c. changes-length report c) currencies;
      six = six;
      sums = omega (arith, line-length 83 (section (6 * currencies) 6 report));
      three = three;
      measures = omega (arith, line-length 77 (section (measure_at currencies) 3 report));
    }

pub report-length : (curved : ℕ → Bool) (report : List ℤ) → length (report_text currencies curved report) ≤ longest_text
unfolding report_text tabulate_from
report-length curved report =
    let changes = curved_lines curved (changes_line report) currencies in
    let sums = line 83 (tabulate_from (λ i. get_or report (sum_at currencies i) (pos 0)) 1 6) in
    let measures = line 77 (get_or report (measure_at currencies) (pos 0) ∷ get_or report (worst_at currencies) (pos 0) ∷ get_or report (tolerance_at currencies) (pos 0) ∷ []) in
    let verdict = get_or report (verdict_at currencies) (pos 0) in
    omega (
      arith,
      length-append changes sums,
      length-append (changes ++ sums) measures,
      length-append ((changes ++ sums) ++ measures) (86 ∷ 32 ∷ verdict_word verdict ++ (10 ∷ [])),
      lines-length curved (changes_line report) 156 (λ c. changes-length report c) currencies,
      line-length 83 (tabulate_from (λ i. get_or report (sum_at currencies i) (pos 0)) 1 6),
      line-length 77 (get_or report (measure_at currencies) (pos 0) ∷ get_or report (worst_at currencies) (pos 0) ∷ get_or report (tolerance_at currencies) (pos 0) ∷ []),
      verdict-length verdict,
    )
