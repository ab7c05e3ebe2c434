-- What is answered to a whole body, and what it leaves in the arrays. A refused record changes nothing.
use Rattle.std.specs.Prelude.{ℕ, List, ◌≡◌}
use Rattle.paper.specs.Refusals.{Checked}
use Rattle.paper.specs.Records.{Record, currencies}
use Rattle.paper.specs.Ledger.{SoFar}
use Rattle.paper.specs.Book.{admitted}
use Rattle.arrays.specs.Rooms.{so_far_by}
use Rattle.arrays.specs.Arrays.{Arrays, with_record}
use Rattle.posting.specs.Parts.{Taken}
use Rattle.posting.specs.Answers.{taken_of, into}

pub record RecordTaken (read : Checked Record) (a : Arrays) (answer : Taken) (a' : Arrays) : Type 0 where
  pub answered : answer ≡ taken_of read
  pub arrays : a' ≡ into with_record read a

-- what is tested against, by the mask of the currencies with a curve and by the sums
abbrev pub tested : ℕ → Arrays → SoFar
tested curved a = so_far_by curved a.sizes a.option_sizes

abbrev pub TakesRecord : ℕ → ℕ → List ℕ → Arrays → Taken → Arrays → Type 0
TakesRecord curved kind body a = RecordTaken (admitted currencies (tested curved a) kind body) a
