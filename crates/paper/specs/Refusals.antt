-- Turned down: the number of each cause, a value that may be refused instead, and what a caller is told of it. Each number's circumstance is in TurnedDown.antt.
use Rattle.std.specs.Prelude.{ℕ, Bool, true, false, ◌&&◌, ◌||◌, Result, Ok, Err}
use Rattle.laws.specs.Tests.{◌is◌, ◌up_to◌}
use Rattle.paper.specs.declared.Refusal.{Refusal}
use Rattle.paper.specs.declared.Fault.{Fault}
use Rattle.paper.specs.declared.Refusal.TheVariants.{UnknownKind, CutShort, BadCurrency, BadSide, BadTerm, TooLarge, BadShare, BadCategory, CoreAboveCap, CoreTooLong, InterestAlone, SecondCurve, OutOfRange, OverLimit, NoCurve, BadCapital, BookTooLong, RoomTooSmall, UnknownEdition, CodeNotListed}

unfoldable pub number_of : Refusal → ℕ
number_of UnknownKind = 1
number_of CutShort = 2
number_of BadCurrency = 3
number_of BadSide = 4
number_of BadTerm = 5
number_of TooLarge = 6
number_of BadShare = 7
number_of BadCategory = 8
number_of CoreAboveCap = 9
number_of CoreTooLong = 10
number_of InterestAlone = 11
number_of SecondCurve = 12
number_of OutOfRange = 13
number_of OverLimit = 14
number_of NoCurve = 15
number_of BadCapital = 16
number_of BookTooLong = 17
number_of RoomTooSmall = 18
number_of UnknownEdition = 19
number_of CodeNotListed = 20

-- 3 to 8, 11 and 13 are told at a field, the others of a record at its first byte (02, request 2): that the walk does so is a theorem, `record-inside`
unfoldable pub of_field : Refusal → Bool
of_field r = let n = number_of r in (3 up_to n && n up_to 8) || n is 11 || n is 13

-- a value, or a refusal with its place
pub data Checked (A : Type 0) : Type 0 where
  accepted : A → Checked A
  refused : Refusal → (place : ℕ) → Checked A

infixl 10 ◌>>=◌ ◌>>◌
-- one after the other: the first refusal stands
unfoldable pub ◌>>=◌ : {A B : Type 0} → Checked A → (A → Checked B) → Checked B
accepted a >>= next = next a
refused r place >>= next = refused r place

unfoldable pub ◌>>◌ : {A B : Type 0} → Checked A → Checked B → Checked B
accepted a >> next = next
refused r place >> next = refused r place

-- the value, unless the circumstance holds
unfoldable pub unless : {A : Type 0} → Bool → Refusal → ℕ → A → Checked A
unless true r place a = refused r place
unless false r place a = accepted a

-- the circumstance alone
abbrev pub refuse_if : Bool → Refusal → ℕ → Checked (Unit {0})
refuse_if circumstance r place = unless circumstance r place tt

-- what a caller is told: all is there, or a number and a place
pub data Answer : Type 0 where
  reported : Answer
  turned_down : (number place : ℕ) → Answer

unfoldable pub answer_of : {A : Type 0} → Checked A → Answer
answer_of (accepted a) = reported
answer_of (refused r place) = turned_down (number_of r) place

-- ---- as the code says it

abbrev pub fault : Refusal → ℕ → Fault
fault q place = record { cause = q; place = place }

-- what stands for the value, or the fault
abbrev pub result_of : {A B : Type 0} → (A → B) → Checked A → Result B Fault
result_of as_code (accepted x) = Ok (as_code x)
result_of as_code (refused q place) = Err (fault q place)

-- and back: what a result stands for
unfoldable pub checked_as : {A B : Type 0} → (A → B) → Result A Fault → Checked B
checked_as as_paper (Ok x) = accepted (as_paper x)
checked_as as_paper (Err f) = refused f.cause f.place
