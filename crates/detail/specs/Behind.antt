-- What stands behind a report, as its arrays have it, and how long its text is at most.
use Rattle.std.specs.Prelude.{ℕ, ◌+◌, ◌*◌, ◌-◌, List, ◌++◌, ◌≡◌, ℤ, pos, length, get_or}
use Rattle.paper.specs.Records.{currencies, kind_count}
use Rattle.paper.specs.Flow.{shocked}
use Rattle.paper.specs.Ledger.{cells}
use Rattle.paper.specs.Program.{curved_lines}
use Rattle.paper.specs.Detail.{currency_text, closing_text}
use Rattle.arrays.specs.Masks.{curved_by}
use Rattle.arrays.specs.Rooms.{totals_by}

-- the counts, ten for each currency
unfoldable pub count_by : List ℤ → ℕ → ℕ → ℤ
count_by counts c kind = get_or counts (kind_count * (c - 1) + (kind - 1)) (pos 0)

-- the arrays of all currencies: ledger, rates, add-ons and counts
pub record Lengths (ledger rates add_ons counts : List ℤ) : Type 0 where
  pub ledger-long : length ledger ≡ cells currencies
  pub rates-long : length rates ≡ cells currencies
  pub add_ons-long : length add_ons ≡ shocked * currencies
  pub counts-long : length counts ≡ kind_count * currencies

abbrev pub currency_by : (ledger rates add_ons counts : List ℤ) → ℕ → List ℕ
currency_by ledger rates add_ons counts = currency_text (totals_by ledger add_ons rates) (count_by counts)

abbrev pub behind_by : (ledger rates add_ons counts : List ℤ) → (curved n m T : ℕ) → List ℕ
behind_by ledger rates add_ons counts curved n m T =
    curved_lines (curved_by curved) (currency_by ledger rates add_ons counts) currencies ++ closing_text n m T

-- U and A of 156 bytes, seven Z and seven F of 464, K of 24 and 22 for each kind
abbrev pub longest_currency : ℕ
longest_currency = 2 * 156 + 14 * 464 + (24 + 22 * kind_count)

-- N and T of 24, L, H and P of 27
abbrev pub longest_closing : ℕ
longest_closing = 129

abbrev pub longest_behind : ℕ
longest_behind = longest_currency * currencies + longest_closing
