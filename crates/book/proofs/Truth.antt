-- Demand 3 of what the report's room holds, of the flows that the ledger's room holds: cells beyond the report and the ledger do not matter.
use Prim.Native.Nat.{ℕ, ◌+◌, ◌*◌, ◌-◌, ◌≤◌, ◌<◌}
use mathlib.Core.List.{List, ◌++◌}
use mathlib.Core.Path.{◌≡◌, sym, ap, ◌∙◌}
use native.Mathlib.Omega.{arith}
use lib.IntN.{ℤ, pos}
use lib.ListN.{length, get_or, drop, get_or-append, length-append}
use Rattle.std.specs.Prelude.{Result}
use Rattle.laws.proofs.Lists.{tabulate_from-length, tabulate-length}
use Rattle.paper.specs.declared.Fault.{Fault}
use Rattle.paper.specs.Ladder.{buckets}
use Rattle.paper.specs.Refusals.{Checked, accepted}
use Rattle.paper.specs.Records.{Record, currencies}
use Rattle.paper.specs.Flow.{scenarios}
use Rattle.paper.specs.Ledger.{Totals, totals, cells, ledger_of, figures}
use Rattle.paper.specs.Verdict.{changes_of, report_from, report_of}
use Rattle.paper.specs.Book.{outcome, report_after, ledger_after}
use Rattle.paper.specs.Demand3.{figure, Demand3}
use Rattle.paper.proofs.Demand3.{accepted-true}
use Rattle.arrays.specs.Rooms.{cell_by}
use Rattle.arrays.proofs.More.{cell-is}
use Rattle.book.specs.Assessed.{Assesses, Truthful}

-- ---- lengths

ledger-long : (cell : ℕ → ℕ → ℕ → ℤ) → length (ledger_of currencies cell) ≡ cells currencies
unfolding ledger_of
ledger-long cell = tabulate-length _ (cells currencies)

pub report-long : (t : Totals) (T : ℕ) → length (report_of currencies t T) ≡ figures currencies
unfolding report_of report_from changes_of
report-long t T = simp (length-append, tabulate_from-length)

-- ---- a report whose figures are those of another is as true

same-figures : {t : Totals} {T : ℕ} {report other : List ℤ} → ((j : ℕ) → j < figures currencies → figure other j ≡ figure report j) → Demand3 currencies t T report → Demand3 currencies t T other
same-figures {t} {T} {report} {other} e d = record {
  changes = λ c i l h p n. rw (e (6 * (c - 1) + (i - 1)) (omega arith)) (d.changes c i l h p n);
  sums = λ i p n. rw (e (6 * currencies + (i - 1)) (omega arith)) (d.sums i p n);
  measure = rw (e (6 * currencies + 6) (omega arith)) d.measure;
  stated = e (6 * currencies + 8) (omega arith) ∙ d.stated;
  one_of_three = rw (e (6 * currencies + 9) (omega arith)) d.one_of_three;
  over = λ v. d.over (sym (e (6 * currencies + 9) (omega arith)) ∙ v);
  within = λ v. d.within (sym (e (6 * currencies + 9) (omega arith)) ∙ v);
  close = rw (e (6 * currencies + 6) (omega arith), e (6 * currencies + 8) (omega arith), e (6 * currencies + 9) (omega arith)) d.close;
}

pub truthful : {book : List ℕ} {T : ℕ} {report ledger report' ledger' : List ℤ} {a : Result ℕ Fault} → Assesses book T report ledger a report' ledger' → Truthful book T report ledger report'
unfolding report_after
truthful {book} {T} {report} {ledger} {report'} p = record {
  holds = λ kept e.
      let t : Totals = totals kept in
      let is : report' ≡ report_of currencies t T ++ drop (figures currencies) report = p.answers.report-is ∙ ap (λ (o : Checked (List Record)). report_after currencies o T report) e in
      same-figures
      (λ j l. ap (λ (r : List ℤ). figure r j) is ∙ get_or-append (report_of currencies t T) (drop (figures currencies) report) (pos 0) j (omega (arith, report-long t T)))
      (accepted-true currencies book T (length report) (length ledger) kept e);
}

-- the second clause follows from the first
pub promised : {book : List ℕ} {T : ℕ} {report ledger report' ledger' : List ℤ} {a : Result ℕ Fault} → Assesses book T report ledger a report' ledger'
    → Assesses book T report ledger a report' ledger' × Truthful book T report ledger report'
promised p = (p, truthful p)

-- ---- the flows of demand 3 are those of the ledger's room

-- 133(currency - 1) + 19(scenario) + (bucket - 1), with k for bucket - 1
pub ledger-flows : {book : List ℕ} {T : ℕ} {report ledger report' ledger' : List ℤ} {a : Result ℕ Fault} → Assesses book T report ledger a report' ledger'
    → (kept : List Record) → outcome currencies book T (length report) (length ledger) ≡ accepted kept
    → (c i k : ℕ) → 1 ≤ c → c ≤ currencies → i < scenarios → k < buckets → get_or ledger' (133 * (c - 1) + 19 * i + k) (pos 0) ≡ (totals kept).cell c i k
unfolding ledger_after cell_by
ledger-flows {ledger = ledger} p kept e c i k l h m n =
    let held = ledger_of currencies (totals kept).cell in
    ap (λ (room : List ℤ). get_or room (133 * (c - 1) + 19 * i + k) (pos 0)) (p.answers.ledger-is ∙ ap (λ (o : Checked (List Record)). ledger_after currencies o ledger) e)
    ∙ get_or-append held (drop (cells currencies) ledger) (pos 0) (133 * (c - 1) + 19 * i + k) (omega (arith, ledger-long (totals kept).cell))
    ∙ cell-is (totals kept).cell c i k l h m n
