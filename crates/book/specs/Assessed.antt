-- What `assess` promises, for all inputs: the answer, and what the report and the ledger then hold, refusals too.
use Rattle.std.specs.Prelude.{ℕ, List, ◌≡◌, ℤ, length, Result, Ok, Err}
use Rattle.paper.specs.declared.Refusal.{Refusal}
use Rattle.paper.specs.declared.Fault.{Fault}
use Rattle.paper.specs.Refusals.{number_of, Checked, accepted, Answer, reported, turned_down, answer_of, fault}
use Rattle.paper.specs.Records.{Record, currencies}
use Rattle.paper.specs.Ledger.{totals, curved}
use Rattle.paper.specs.Book.{outcome, report_after, ledger_after}
use Rattle.paper.specs.Demand3.{Demand3}
use Rattle.arrays.specs.Masks.{MaskOf}

unfoldable pub told : Result ℕ Fault → Answer
told (Ok curves) = reported
told (Err f) = turned_down (number_of f.cause) f.place

-- by 16 to 18, which have no place in the book
abbrev pub without_place : Refusal → Fault
without_place r = fault r 0

-- the answer to what a book comes to, and what it leaves in the rooms
pub record Answers (o : Checked (List Record)) (T : ℕ) (report ledger : List ℤ) (answer : Result ℕ Fault) (report' ledger' : List ℤ) : Type 0 where
  pub says : told answer ≡ answer_of o
  pub curves-are : (curves : ℕ) (kept : List Record) → answer ≡ Ok curves → o ≡ accepted kept → MaskOf curves (curved kept)
  pub report-is : report' ≡ report_after currencies o T report
  pub ledger-is : ledger' ≡ ledger_after currencies o ledger

-- demands 1 and 2
pub record Assesses (book : List ℕ) (T : ℕ) (report ledger : List ℤ) (answer : Result ℕ Fault) (report' ledger' : List ℤ) : Type 0 where
  pub answers : Answers (outcome currencies book T (length report) (length ledger)) T report ledger answer report' ledger'

-- demand 3: what is reported of an accepted book is true within its tolerances
pub record Truthful (book : List ℕ) (T : ℕ) (report ledger report' : List ℤ) : Type 0 where
  pub holds : (kept : List Record) → outcome currencies book T (length report) (length ledger) ≡ accepted kept → Demand3 currencies (totals kept) T report'
