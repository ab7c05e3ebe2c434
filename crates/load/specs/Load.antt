-- What the records of a book come to, the walk and then 15, and what is left in the arrays.
use Rattle.std.specs.Prelude.{ℕ, List, ◌≡◌, Result, Ok, Err}
use Rattle.paper.specs.declared.Fault.{Fault}
use Rattle.paper.specs.Refusals.{Checked, accepted, refused, ◌>>=◌}
use Rattle.paper.specs.Records.{Record, currencies}
use Rattle.paper.specs.Ledger.{curved}
use Rattle.paper.specs.Book.{walk, covered}
use Rattle.arrays.specs.Masks.{MaskOf}
use Rattle.arrays.specs.Arrays.{Arrays, arrays_of}
use Rattle.load.specs.Walk.{kept_in}

-- the part of the outcome that 16 to 18 leave to the records
abbrev pub of_records : List ℕ → Checked (List Record)
of_records book = walk currencies book >>= covered currencies

pub record AllLoaded (book : List ℕ) (curves : ℕ) : Type 0 where
  pub loaded : of_records book ≡ accepted (kept_in book)
  pub curved-is : MaskOf curves (curved (kept_in book))

-- whatever the answer, the arrays are those of the records kept
pub record Loads (book : List ℕ) (answer : Result ℕ Fault) (a : Arrays) : Type 0 where
  pub arrays : a ≡ arrays_of (kept_in book)
  pub all : (curves : ℕ) → answer ≡ Ok curves → AllLoaded book curves
  pub stopped : (f : Fault) → answer ≡ Err f → of_records book ≡ refused f.cause f.place
