-- What the face for other languages promises: the same as `assess` and `widen`, with the answer as a number and a place.
use Rattle.std.specs.Prelude.{ℕ, List, ◌≡◌, ℤ, length, set, Result, Ok, Err}
use Rattle.paper.specs.declared.Fault.{Fault}
use Rattle.paper.specs.Refusals.{number_of, Checked, Answer, reported, turned_down, answer_of}
use Rattle.paper.specs.Records.{Record, currencies}
use Rattle.paper.specs.Book.{outcome, report_after, ledger_after}
use Rattle.paper.specs.Stored.{report_widened}
use Rattle.arrays.specs.Lent.{Lent}
use Rattle.stored.specs.Stored.{widening_of}

-- 0 stands for a report
unfoldable pub number_in : Answer → ℕ
number_in reported = 0
number_in (turned_down number place) = number

unfoldable pub place_in : Answer → ℕ
place_in reported = 0
place_in (turned_down number place) = place

-- of whichever function the answer is
unfoldable pub told : {A : Type 0} → Result A Fault → Answer
told (Ok x) = reported
told (Err f) = turned_down (number_of f.cause) f.place

-- in the first cell, if there is one
abbrev pub with_place : ℕ → List ℕ → List ℕ
with_place told room = set room 0 told

-- an answer, as the number that comes back and what the room for the place then holds
pub record Tells (a : Answer) (place : List ℕ) (number : ℕ) (place' : List ℕ) : Type 0 where
  pub number_is : number ≡ number_in a
  pub place_is : place' ≡ with_place (place_in a) place

pub record Faced (o : Checked (List Record)) (T : ℕ) (report ledger : List ℤ) (place : List ℕ) (number : ℕ) (report' ledger' : List ℤ) (place' : List ℕ) : Type 0 where
  pub tells : Tells (answer_of o) place number place'
  pub report-is : report' ≡ report_after currencies o T report
  pub ledger-is : ledger' ≡ ledger_after currencies o ledger

-- by what the face is lent
abbrev pub Faces : List ℕ → ℕ → Lent ℤ → Lent ℤ → Lent ℕ → ℕ → Type 0
Faces book T report ledger place number =
    Faced (outcome currencies book T (length report.entry.now) (length ledger.entry.now)) T report.entry.now ledger.entry.now place.entry.now
    number report.exit.now ledger.exit.now place.exit.now

-- ---- and the same of `widen`

pub record WidenedFace (stored report : List ℤ) (place : List ℕ) (number : ℕ) (report' : List ℤ) (place' : List ℕ) : Type 0 where
  pub tells : Tells (answer_of (widening_of stored report)) place number place'
  pub report-is : report' ≡ report_widened currencies (widening_of stored report) report

abbrev pub FacesWidening : List ℤ → Lent ℤ → Lent ℕ → ℕ → Type 0
FacesWidening stored report place number = WidenedFace stored report.entry.now place.entry.now number report.exit.now place.exit.now
