-- Sets of currencies as masks: the currency c is the binary digit c - 1.
use Rattle.std.specs.Prelude.{ℕ, suc, ◌-◌, ◌^◌, ◌≤◌, ◌<◌, Bool, not, ◌&&◌, ◌≡◌, Option, if◌then◌else◌}
use Rattle.std.specs.Bool.{then_some}
use Rattle.std.specs.Int.Bits.{bit_or}
use Rattle.laws.specs.Tests.{◌up_to◌, first}
use Rattle.laws.specs.Digits.{has}
use Rattle.laws.specs.Sums.{greatest}
use Rattle.paper.specs.Records.{Record, currencies, currency_of, is_curve}
use Rattle.arrays.specs.declared.masks.Masks.{Masks}

unfoldable pub curved_by : ℕ → ℕ → Bool
curved_by mask c = has mask (c - 1)

-- a mask stands for a set of currencies
pub record MaskOf (mask : ℕ) (set : ℕ → Bool) : Type 0 where
  pub small : mask < 2 ^ currencies
  pub has-it : (c : ℕ) → 1 ≤ c → c ≤ currencies → curved_by mask c ≡ set c

-- a currency joined to a set
abbrev pub with_currency : ℕ → ℕ → ℕ
with_currency mask c = bit_or mask (2 ^ (c - 1))

-- a position marks its currency as used, a curve as curved
unfoldable pub marked_by : Bool → ℕ → Masks → Masks
marked_by curve c m =
    if curve then record { used = m.used; curved = with_currency m.curved c } else
    record { used = with_currency m.used c; curved = m.curved }

abbrev pub marked : Record → Masks → Masks
marked r m = marked_by (is_curve r) (currency_of r) m

-- the last currency of a set; 0 where it has none
unfoldable pub last_of : ℕ → ℕ
last_of mask = greatest (λ c. if curved_by mask c then c else 0) currencies

-- the lowest currency of the first set that is none of the second, by the digits
unfoldable pub lowest_missing : Masks → ℕ
lowest_missing m = suc (first (λ i. has m.used i && not (has m.curved i)) 0 32)

-- the same where there is one, among the currencies
abbrev pub missing_in : Masks → Option ℕ
missing_in m = then_some (lowest_missing m up_to currencies) (lowest_missing m)
