-- What `widen` promises, for all lists and rooms.
use Rattle.std.specs.Prelude.{ℕ, ◌≤◌, List, ◌≡◌, ℤ, length, Result, Ok, Err}
use Rattle.paper.specs.declared.Fault.{Fault}
use Rattle.paper.specs.Refusals.{number_of, Checked, accepted, Answer, reported, turned_down, answer_of}
use Rattle.paper.specs.Records.{Record, currencies}
use Rattle.paper.specs.Ledger.{totals, cells, figures}
use Rattle.paper.specs.Verdict.{report_of}
use Rattle.paper.specs.Book.{outcome, report_after}
use Rattle.paper.specs.Stored.{stored_currencies, widening, report_widened}

unfoldable pub told : Result (Unit {0}) Fault → Answer
told (Ok done) = reported
told (Err f) = turned_down (number_of f.cause) f.place

abbrev pub widening_of : (stored report : List ℤ) → Checked (List ℤ)
widening_of stored report = widening stored_currencies currencies stored (length report)

-- the answer, and what it leaves in the room
pub record Widens (stored report : List ℤ) (answer : Result (Unit {0}) Fault) (report' : List ℤ) : Type 0 where
  pub says : told answer ≡ answer_of (widening_of stored report)
  pub report-is : report' ≡ report_widened currencies (widening_of stored report) report

-- the report that was stored of a book by the rules over fewer currencies becomes the one that a fresh run leaves in the same room
pub record AsFresh (stored report report' : List ℤ) : Type 0 where
  pub holds : (book : List ℕ) (T : ℕ) (kept : List Record) → outcome stored_currencies book T (figures stored_currencies) (cells stored_currencies) ≡ accepted kept
      → stored ≡ report_of stored_currencies (totals kept) T → figures currencies ≤ length report
      → report' ≡ report_after currencies (outcome currencies book T (length report) (cells currencies)) T report
