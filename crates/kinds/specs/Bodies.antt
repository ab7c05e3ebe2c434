-- What the function of a kind took, in its currency's own parts. A refused record changes nothing.
use Rattle.std.specs.Prelude.{ℕ, Bool, List, ◌≡◌}
use Rattle.paper.specs.Refusals.{Checked}
use Rattle.paper.specs.Records.{Record, currencies}
use Rattle.paper.specs.Book.{admitted}
use Rattle.arrays.specs.Rooms.{so_far_in}
use Rattle.arrays.specs.Arrays.{Arrays, in_parts}
use Rattle.posting.specs.Parts.{Taken}
use Rattle.posting.specs.Answers.{taken_of, into}

pub record BodyTaken (read : Checked Record) (p : Arrays) (answer : Taken) (p' : Arrays) : Type 0 where
  pub answered : answer ≡ taken_of read
  pub parts : p' ≡ into in_parts read p

abbrev pub TakesBody : Bool → ℕ → List ℕ → Arrays → Taken → Arrays → Type 0
TakesBody curved kind body p = BodyTaken (admitted currencies (so_far_in curved p.sizes p.option_sizes) kind body) p
