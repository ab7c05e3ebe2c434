-- No part of 01: what follows from it of an accepted record, whose fields lie in their ranges. Contracts ask it of what was decoded; that every accepted record has it
-- is a theorem, `every-record`.
use Rattle.std.specs.Prelude.{ℕ, ◌+◌, ◌*◌, ◌≤◌, ◌<◌, Bool, false, List, ◌≡◌, ℤ, nat_abs, length, get_or}
use Rattle.laws.specs.Integers.{up, down}
use Rattle.laws.specs.Sums.{sum_of}
use Rattle.paper.specs.Scales.{billion}
use Rattle.paper.specs.Ladder.{buckets, Term}
use Rattle.paper.specs.Curve.{Curve, shocked_rate}
use Rattle.paper.specs.Records.{Flows, single, coupons, floating, deposit, loan, term_deposit, floating_spread, Record, flows, option, curve}
use Rattle.paper.specs.TurnedDown.{bad_period, core_above_cap, core_too_long, interest_alone}

-- ---- fields

pub record Between (low high x : ℕ) : Type 0 where
  pub from : low ≤ x
  pub to : x ≤ high

-- a count is some, and the last month is at most 600
pub record Counted (start period count : ℕ) : Type 0 where
  pub some : 1 ≤ count
  pub last : start + period * count ≤ 600

pub record Small (z : ℤ) : Type 0 where
  pub small : nat_abs z ≤ billion

-- -50,000 to 300,000
pub record Ranged (z : ℤ) : Type 0 where
  pub low : down z ≤ 50000
  pub high : up z ≤ 300000

-- a list of fields: so many, and each as its reader knows
pub record Listed {A : Type 0} (P : A → Type 0) (n : ℕ) (xs : List A) : Type 0 where
  pub long : length xs ≡ n
  pub at : (d : A) (k : ℕ) → k < n → P (get_or xs k d)

-- ---- records, in the order of their fields

abbrev pub Amounts : List ℕ → Type 0
Amounts = Listed (Between 0 billion) buckets

abbrev pub SoundTerm : Term → Type 0
SoundTerm t = Between 0 600 t.months × Between 0 30 t.days

unfoldable pub SoundFlows : Flows → Type 0
SoundFlows (single side term amount) = Between 1 2 side × SoundTerm term × Between 0 billion amount
SoundFlows (coupons side period count coupon principal) =
    Between 1 2 side × (bad_period period ≡ false) × Counted 0 period count × Between 0 billion coupon × Between 0 billion principal
SoundFlows (floating side reset principal coupon) = Between 1 2 side × SoundTerm reset × Between 0 billion principal × Between 0 billion coupon
SoundFlows (deposit category whole core) =
    Between 1 3 category × Between 0 billion whole × Amounts core × (core_above_cap category whole core ≡ false) × (core_too_long category core ≡ false)
SoundFlows (loan share principals interests) =
    Between 0 10000 share × Amounts principals × Amounts interests × ((k : ℕ) → k < buckets → interest_alone principals interests k ≡ false)
    × (sum_of principals + sum_of interests ≤ billion)
SoundFlows (term_deposit share amounts) = Between 0 10000 share × Amounts amounts
SoundFlows (floating_spread side reset principal coupon period count spread) =
    Between 1 2 side × SoundTerm reset × Between 0 billion principal × Between 0 billion coupon
    × (bad_period period ≡ false) × Counted reset.months period count × Between 0 billion spread

-- the currency had no curve; every rate is in range, in the base and in the six scenarios
pub record SoundCurve (curved : ℕ → Bool) (c : ℕ) (z : Curve) : Type 0 where
  pub fresh : curved c ≡ false
  pub base : Listed Ranged buckets z.rates
  pub parallel : Between 0 1000 z.shocks.parallel
  pub short : Between 0 1000 z.shocks.short
  pub long : Between 0 1000 z.shocks.long
  pub shocked : (i k : ℕ) → i < 7 → k < buckets → Ranged (shocked_rate z i k)

unfoldable pub Sound : ℕ → (ℕ → Bool) → Record → Type 0
Sound top curved (flows c f) = Between 1 top c × SoundFlows f
Sound top curved (option c side values) = Between 1 top c × Between 1 2 side × Listed Small 6 values
Sound top curved (curve c z) = Between 1 top c × SoundCurve curved c z
