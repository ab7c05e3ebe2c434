-- What a record puts into its currency's own parts of the arrays: 133 cells and 133 rates, 7 sizes, 6 option sizes, 6 add-ons.
use Rattle.std.specs.Prelude.{ℕ, suc, ◌+◌, ◌/◌, ◌%◌, Bool, not, List, ℤ, pos, nat_abs, ◌+ℤ◌, get_or, if◌then◌else◌}
use Rattle.laws.specs.Tests.{◌below◌, all}
use Rattle.laws.specs.Lists.{joined}
use Rattle.paper.specs.Scales.{billion}
use Rattle.paper.specs.Ladder.{buckets}
use Rattle.paper.specs.Records.{Record}
use Rattle.paper.specs.Flow.{flow, adds, gives, magnitude}

-- f j added to each element j
abbrev pub plus : List ℕ → (ℕ → ℕ) → List ℕ
plus = joined ◌+◌ 0

abbrev pub plus_ℤ : List ℤ → (ℕ → ℤ) → List ℤ
plus_ℤ = joined ◌+ℤ◌ (pos 0)

unfoldable pub with_flows : Record → List ℤ → List ℤ
with_flows r section = plus_ℤ section (λ j. flow r (j / buckets) (j % buckets))

-- a curve's rates added to its currency's part, which is nil before it
unfoldable pub with_rates : Record → List ℤ → List ℤ
with_rates r part = plus_ℤ part (λ j. gives r (j / buckets) (j % buckets))

unfoldable pub with_sizes : Record → List ℕ → List ℕ
with_sizes r sizes = plus sizes (magnitude r)

unfoldable pub with_add_ons : Record → List ℤ → List ℤ
with_add_ons r add_ons = plus_ℤ add_ons (λ j. adds r (suc j))

-- a record's option magnitudes, scenarios 1 to 6 in turn
abbrev pub option_magnitude : Record → ℕ → ℕ
option_magnitude r j = nat_abs (adds r (suc j))

unfoldable pub with_option_sizes : Record → List ℕ → List ℕ
with_option_sizes r sizes = plus sizes (option_magnitude r)

-- 14, of one currency: with the record under test each of its n sums stays at or below a billion
unfoldable pub room_for : (ℕ → ℕ) → List ℕ → ℕ → Bool
room_for more sums n = all (λ j. not (billion below get_or sums j 0 + more j)) 0 n

-- a refused record changes nothing
abbrev pub only_if : {A : Type 0} → Bool → A → A → A
only_if b after before = if b then after else before
