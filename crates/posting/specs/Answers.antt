-- What the function of a kind answers, and what it leaves in its currency's parts: a record that is refused, by its fields or by 14, changes nothing.
use Rattle.std.specs.Prelude.{ℕ, not, List, ◌≡◌, ℤ}
use Rattle.paper.specs.declared.Refusal.TheVariants.{OverLimit}
use Rattle.paper.specs.Refusals.{Checked, accepted, refused, ◌>>=◌, unless, result_of}
use Rattle.paper.specs.Records.{Record}
use Rattle.paper.specs.Flow.{scenarios, shocked, magnitude}
use Rattle.arrays.specs.Lent.{Lent}
use Rattle.arrays.specs.Slots.{with_flows, with_rates, with_sizes, with_add_ons, with_option_sizes, option_magnitude, room_for}
use Rattle.posting.specs.Parts.{Taken}

-- the answer to what was read
abbrev pub taken_of : Checked Record → Taken
taken_of read = result_of (λ _. tt) read

-- what was read, taken into the parts that it touches; a refused record changes nothing
abbrev pub into : {A : Type 0} → (Record → A → A) → Checked Record → A → A
into with' (accepted r) parts = with' r parts
into with' (refused q place) parts = parts

-- ---- kinds 1 to 6 and 9, in the 133 cells and 7 sizes

-- what was read, with 14 on these sizes
unfoldable pub flows_fit : List ℕ → Checked Record → Checked Record
flows_fit sizes read = read >>= (λ r. unless (not (room_for (magnitude r) sizes scenarios)) OverLimit 0 r)

pub record FlowsTaken (read : Checked Record) (section : List ℤ) (sizes : List ℕ) (answer : Taken) (section' : List ℤ) (sizes' : List ℕ) : Type 0 where
  pub answered : answer ≡ taken_of (flows_fit sizes read)
  pub cells : section' ≡ into with_flows (flows_fit sizes read) section
  pub sums : sizes' ≡ into with_sizes (flows_fit sizes read) sizes

-- by what the function is lent
abbrev pub TakesFlows : Checked Record → Lent ℤ → Lent ℕ → Taken → Type 0
TakesFlows read section sizes answer = FlowsTaken read section.entry.now sizes.entry.now answer section.exit.now sizes.exit.now

-- ---- kind 7, in the 6 option sizes and 6 add-ons, of scenarios 1 to 6

unfoldable pub options_fit : List ℕ → Checked Record → Checked Record
options_fit sizes read = read >>= (λ r. unless (not (room_for (option_magnitude r) sizes shocked)) OverLimit 0 r)

pub record OptionTaken (read : Checked Record) (sizes : List ℕ) (add_ons : List ℤ) (answer : Taken) (sizes' : List ℕ) (add_ons' : List ℤ) : Type 0 where
  pub answered : answer ≡ taken_of (options_fit sizes read)
  pub sums : sizes' ≡ into with_option_sizes (options_fit sizes read) sizes
  pub values : add_ons' ≡ into with_add_ons (options_fit sizes read) add_ons

abbrev pub TakesOption : Checked Record → Lent ℕ → Lent ℤ → Taken → Type 0
TakesOption read sizes add_ons answer = OptionTaken read sizes.entry.now add_ons.entry.now answer sizes.exit.now add_ons.exit.now

-- ---- kinds 8 and 10, in the 133 rates: 14 does not touch a curve

pub record CurveTaken (read : Checked Record) (rates : List ℤ) (answer : Taken) (rates' : List ℤ) : Type 0 where
  pub answered : answer ≡ taken_of read
  pub filled : rates' ≡ into with_rates read rates
