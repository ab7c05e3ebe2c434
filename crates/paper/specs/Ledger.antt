-- A book means the list of the records kept. What they come to is, number by number, a sum over the records of one currency.
use Rattle.std.specs.Prelude.{ℕ, suc, ◌+◌, ◌*◌, ◌/◌, ◌%◌, Bool, not, ◌&&◌, List, [], ◌∷◌, ℤ, pos, nat_abs, if◌then◌else◌}
use Rattle.laws.specs.Tests.{◌is◌}
use Rattle.laws.specs.Sums.{total, total_ℤ, some}
use Rattle.laws.specs.Lists.{tabulate}
use Rattle.paper.specs.Ladder.{buckets}
use Rattle.paper.specs.Records.{Record, currency_of, is_curve}
use Rattle.paper.specs.Flow.{scenarios, flow, adds, gives, magnitude}

-- over the records of the currency c
unfoldable pub of_currency : (Record → ℕ) → ℕ → List Record → ℕ
of_currency f c kept = total (λ r. if currency_of r is c then f r else 0) kept

unfoldable pub of_currency_ℤ : (Record → ℤ) → ℕ → List Record → ℤ
of_currency_ℤ f c kept = total_ℤ (λ r. if currency_of r is c then f r else pos 0) kept

-- ---- what flows, add-ons and rates come to, by currency, scenario and bucket k + 1

pub record Totals : Type 0 where
  pub cell : ℕ → ℕ → ℕ → ℤ
  pub add_on : ℕ → ℕ → ℤ
  pub rate : ℕ → ℕ → ℕ → ℤ

-- a currency's rate is its curve's own, of which 12 lets in one; without a curve it reads as 0
unfoldable pub rate_of : List Record → ℕ → ℕ → ℕ → ℤ
rate_of [] c i k = pos 0
rate_of (r ∷ kept) c i k = if currency_of r is c && is_curve r then gives r i k else rate_of kept c i k

abbrev pub totals : List Record → Totals
totals kept = record {
  cell = λ c i k. of_currency_ℤ (λ r. flow r i k) c kept;
  add_on = λ c i. of_currency_ℤ (λ r. adds r i) c kept;
  rate = rate_of kept;
}

-- ---- what a further record is tested against

-- the currencies with a curve; magnitudes of flows and of options, gross, by currency and scenario
pub record SoFar : Type 0 where
  pub curved : ℕ → Bool
  pub size : ℕ → ℕ → ℕ
  pub option_size : ℕ → ℕ → ℕ

-- currencies used, in a position, and currencies with a curve are two sets
unfoldable pub used : List Record → ℕ → Bool
used kept c = some (λ r. currency_of r is c && not (is_curve r)) kept

unfoldable pub curved : List Record → ℕ → Bool
curved kept c = some (λ r. currency_of r is c && is_curve r) kept

abbrev pub so_far : List Record → SoFar
so_far kept = record {
  curved = curved kept;
  size = λ c i. of_currency (λ r. magnitude r i) c kept;
  option_size = λ c i. of_currency (λ r. nat_abs (adds r i)) c kept;
}

-- ---- the ledger: 133(currency - 1) + 19(scenario) + (bucket - 1) is the cell of a net flow

abbrev pub section_size : ℕ
section_size = scenarios * buckets

abbrev pub cells : ℕ → ℕ
cells top = section_size * top

unfoldable pub ledger_of : ℕ → (ℕ → ℕ → ℕ → ℤ) → List ℤ
ledger_of top cell = tabulate (λ j. cell (suc (j / section_size)) (j % section_size / buckets) (j % buckets)) (cells top)

-- the report's numbers: six changes for each currency, and ten more
abbrev pub figures : ℕ → ℕ
figures top = 6 * top + 10
