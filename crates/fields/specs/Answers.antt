-- What the code holds for a value of the paper: `result_of` says what a reader answers with it. And the lists that stand in a body.
use Rattle.std.specs.Prelude.{ℕ, ◌+◌, ◌*◌, List, ◌++◌, ℤ, take, drop}
use Rattle.laws.specs.Tests.{first}
use Rattle.laws.specs.Sums.{sum_of}
use Rattle.laws.specs.Lists.{tabulate}
use Rattle.paper.specs.Ladder.{buckets}
use Rattle.paper.specs.TurnedDown.{bad_rate}
use Rattle.paper.specs.Fields.{four, signed}
use Rattle.scales.specs.declared.Millionths.{Millionths}
use Rattle.scales.specs.declared.Thousands.{Thousands}
use Rattle.scales.specs.declared.SignedThousands.{SignedThousands}

abbrev pub as_it_is : {A : Type 0} → A → A
as_it_is x = x

-- a value that was checked, and is not handed on
abbrev pub no_value : {A : Type 0} → A → Unit {0}
no_value x = tt

-- ---- a number on its scale

abbrev pub thousands : ℕ → Thousands
thousands n = record { 0 = n }

abbrev pub signed_thousands : ℤ → SignedThousands
signed_thousands z = record { 0 = z }

abbrev pub millionths : ℤ → Millionths
millionths z = record { 0 = z }

-- ---- nineteen amounts, by bucket, the first from o on in the body

abbrev pub amounts_from : List ℕ → ℕ → List ℕ
amounts_from body o = tabulate (λ k. four body (o + 4 * k)) buckets

-- their sum stands for them
abbrev pub total : List ℕ → Thousands
total amounts = thousands (sum_of amounts)

-- ---- the nineteen rates of a curve, by bucket, the first from o on in the body

abbrev pub rate_of : List ℕ → ℕ → ℕ → ℤ
rate_of body o k = signed (four body (o + 4 * k))

abbrev pub rates_from : List ℕ → ℕ → List ℤ
rates_from body o = tabulate (rate_of body o) buckets

-- how many of them come before the first that is out of range
unfoldable pub good_rates : List ℕ → ℕ → ℕ
good_rates body o = first (λ k. bad_rate (rate_of body o k)) 0 buckets

-- a room with those set down in it
abbrev pub rates_set : List ℕ → ℕ → List ℤ → List ℤ
rates_set body o room = take (good_rates body o) (rates_from body o) ++ drop (good_rates body o) room
