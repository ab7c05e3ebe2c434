-- What the walk over a book's records answers, and what it leaves in the arrays.
use Rattle.std.specs.Prelude.{ℕ, zero, suc, List, [], ◌∷◌, ◌++◌, ◌≡◌, length, Result, Ok, Err, if◌then◌else◌}
use Rattle.laws.specs.Tests.{◌up_to◌}
use Rattle.paper.specs.declared.Fault.{Fault}
use Rattle.paper.specs.Refusals.{Checked, accepted, refused}
use Rattle.paper.specs.Records.{Record, currencies}
use Rattle.paper.specs.Ledger.{so_far, used, curved}
use Rattle.paper.specs.Book.{record_at, next_at, walk}
use Rattle.arrays.specs.declared.masks.Masks.{Masks}
use Rattle.arrays.specs.Masks.{MaskOf}
use Rattle.arrays.specs.Arrays.{Arrays, arrays_of}

-- a refused record ends the walk with the records kept before it
abbrev pub or_else : List Record → Checked Record → (Record → List Record) → List Record
or_else kept (accepted r) more = more r
or_else kept (refused q place) more = kept

-- the records kept where the paper's walk from a place ends or stops
unfoldable pub kept_from : ℕ → List ℕ → ℕ → List Record → List Record
kept_from zero book at kept = kept
kept_from (suc fuel) book at kept =
    if length book up_to at then kept else
    or_else kept (record_at currencies (so_far kept) book at) (λ r. kept_from fuel book (next_at book at) (kept ++ (r ∷ [])))

unfoldable pub kept_in : List ℕ → List Record
kept_in book = kept_from (length book) book 0 []

-- every record is kept, and the masks are those of the records kept
pub record AllKept (book : List ℕ) (m : Masks) : Type 0 where
  pub walked : walk currencies book ≡ accepted (kept_in book)
  pub used-is : MaskOf m.used (used (kept_in book))
  pub curved-is : MaskOf m.curved (curved (kept_in book))

-- whatever the answer, the arrays are those of the records kept
pub record Walks (book : List ℕ) (answer : Result Masks Fault) (a : Arrays) : Type 0 where
  pub arrays : a ≡ arrays_of (kept_in book)
  pub all : (m : Masks) → answer ≡ Ok m → AllKept book m
  pub stopped : (f : Fault) → answer ≡ Err f → walk currencies book ≡ refused f.cause f.place
