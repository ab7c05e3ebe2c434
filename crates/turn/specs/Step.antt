-- What a turn of the walk answers and leaves, by what was read at its place. A refused record changes nothing.
use Rattle.std.specs.Prelude.{ℕ, ◌+◌, ◌<◌, List, ◌≡◌, Result}
use Rattle.paper.specs.declared.Fault.{Fault}
use Rattle.paper.specs.Refusals.{Checked, fault, result_of}
use Rattle.paper.specs.Records.{Record, currencies}
use Rattle.paper.specs.Book.{admitted, record_at}
use Rattle.arrays.specs.declared.masks.Masks.{Masks}
use Rattle.arrays.specs.Masks.{marked}
use Rattle.arrays.specs.Arrays.{Arrays, with_record}
use Rattle.posting.specs.Answers.{into}
use Rattle.lending.specs.Records.{tested}

-- a place that 64 bits hold, as every place of a book is
abbrev pub Addressed : ℕ → Type 0
Addressed place = place < 18_446_744_073_709_551_616

-- where a fault is told: the paper's `placed`
abbrev pub fault_at : ℕ → Fault → Fault
fault_at at f = fault f.cause (at + f.place)

-- the walk goes on with these masks, or it is over
abbrev pub stepped : Checked Record → Masks → Result Masks Fault
stepped read m = result_of (λ r. marked r m) read

pub record Stepped (read : Checked Record) (m : Masks) (a : Arrays) (answer : Result Masks Fault) (a' : Arrays) : Type 0 where
  pub answered : answer ≡ stepped read m
  pub arrays : a' ≡ into with_record read a

-- of a body, with places counted from the first byte of its record
abbrev pub StepsOver : ℕ → List ℕ → Masks → Arrays → Result Masks Fault → Arrays → Type 0
StepsOver kind body m a = Stepped (admitted currencies (tested m.curved a) kind body) m a

-- of the record at a place
abbrev pub Turns : List ℕ → ℕ → Masks → Arrays → Result Masks Fault → Arrays → Type 0
Turns book at m a = Stepped (record_at currencies (tested m.curved a) book at) m a
