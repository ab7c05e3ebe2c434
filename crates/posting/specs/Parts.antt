-- A currency's parts of the arrays, and what is left in them. 14 is tested first: what is over the limit changes nothing.
use Rattle.std.specs.Prelude.{ℕ, suc, ◌+◌, ◌*◌, ◌/◌, ◌%◌, ◌<◌, ◌≤◌, Bool, List, ◌≡◌, ℤ, pos, nat_abs, length, get_or, if◌then◌else◌, Result, Ok, Err}
use Rattle.laws.specs.Tests.{◌is◌}
use Rattle.paper.specs.declared.Refusal.TheVariants.{OverLimit}
use Rattle.paper.specs.declared.Fault.{Fault}
use Rattle.paper.specs.Refusals.{fault}
use Rattle.paper.specs.Scales.{billion}
use Rattle.paper.specs.Ladder.{buckets}
use Rattle.paper.specs.Flow.{scenarios, sided}
use Rattle.paper.specs.Ledger.{section_size}
use Rattle.arrays.specs.Lent.{Lent}
use Rattle.arrays.specs.Slots.{plus, plus_ℤ, room_for, only_if}

-- every number of the list is at most b; past its end stands 0
abbrev pub AtMost : ℕ → List ℕ → Type 0
AtMost b l = (j : ℕ) → get_or l j 0 ≤ b

abbrev pub AtMostℤ : ℕ → List ℤ → Type 0
AtMostℤ b l = (j : ℕ) → nat_abs (get_or l j (pos 0)) ≤ b

-- no flow, size or cell comes near it, whether 14 lets the record in or not
abbrev pub trillion : ℕ
trillion = 1000000000000

-- a currency's 133 cells and 7 sizes
pub record FlowParts (section : List ℤ) (sizes : List ℕ) : Type 0 where
  pub cells-long : length section ≡ section_size
  pub sizes-long : length sizes ≡ scenarios
  pub cells-small : AtMostℤ billion section
  pub sizes-small : AtMost billion sizes

-- one answer for every kind: the record is taken, or refused for a cause at a place
abbrev pub Taken : Type 0
Taken = Result (Unit {0}) Fault

-- by 14 alone
abbrev pub answer_of : Bool → Taken
answer_of room = if room then Ok tt else Err (fault OverLimit 0)

-- sums with more added, if none of them passes the limit
pub record Admitted (more sums : List ℕ) (answer : Taken) (sums' : List ℕ) : Type 0 where
  pub answered : answer ≡ answer_of (room_for (λ j. get_or more j 0) sums (length sums))
  pub grown : sums' ≡ only_if (room_for (λ j. get_or more j 0) sums (length sums)) (plus sums (λ j. get_or more j 0)) sums

-- an amount in one bucket of every scenario, by the place in a section
unfoldable pub column : ℕ → ℤ → ℕ → ℤ
column bucket amount j = if bucket is suc (j % buckets) then amount else pos 0

-- rows of nineteen flows one after another, the row that each scenario has, and the sum of each row
pub record RowParts (rows which sums : List ℕ) : Type 0 where
  pub rows_long : length rows ≡ buckets * length sums
  pub which-long : length which ≡ scenarios
  pub which-in : (i : ℕ) → i < scenarios → get_or which i 0 < length sums
  pub rows-small : AtMost trillion rows
  pub sums-small : AtMost trillion sums

-- by the place in a section, and by scenario
abbrev pub row_flow : List ℕ → List ℕ → ℕ → ℕ
row_flow rows which j = get_or rows (buckets * get_or which (j / buckets) 0 + j % buckets) 0

abbrev pub row_sum : List ℕ → List ℕ → ℕ → ℕ
row_sum sums which i = get_or sums (get_or which i 0) 0

-- flows by the place in a section, all of one side, and their magnitude in each scenario
pub record Entered (amounts : ℕ → ℕ) (side : ℕ) (more : ℕ → ℕ) (section : List ℤ) (sizes : List ℕ) (answer : Taken) (section' : List ℤ) (sizes' : List ℕ) : Type 0 where
  pub answered : answer ≡ answer_of (room_for more sizes scenarios)
  pub cells : section' ≡ only_if (room_for more sizes scenarios) (plus_ℤ section (λ j. sided side (pos (amounts j)))) section
  pub sums : sizes' ≡ only_if (room_for more sizes scenarios) (plus sizes more) sizes

-- by what a function is lent
abbrev pub Enters : (ℕ → ℕ) → ℕ → (ℕ → ℕ) → Lent ℤ → Lent ℕ → Taken → Type 0
Enters amounts side more section sizes answer =
    Entered amounts side more section.entry.now sizes.entry.now answer section.exit.now sizes.exit.now
