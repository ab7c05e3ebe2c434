-- The working arrays read as the paper's functions. Ledger and rates have 133 places a currency, by the ledger's own rule; sizes have 7,
-- a place a scenario; add-ons and option sizes 6, scenarios 1 to 6.
use Rattle.std.specs.Prelude.{ℕ, ◌+◌, ◌*◌, ◌-◌, Bool, List, ℤ, pos, get_or}
use Rattle.paper.specs.Ladder.{buckets}
use Rattle.paper.specs.Flow.{scenarios}
use Rattle.paper.specs.Ledger.{section_size, Totals, SoFar}
use Rattle.arrays.specs.Masks.{curved_by}

-- 133(currency - 1) + 19(scenario) + (bucket - 1), with k for bucket - 1
unfoldable pub cell_by : List ℤ → ℕ → ℕ → ℕ → ℤ
cell_by ledger c i k = get_or ledger (section_size * (c - 1) + buckets * i + k) (pos 0)

-- an add-on, a change or a tolerance, where its list has six a currency, scenarios 1 to 6
unfoldable pub listed : List ℤ → ℕ → ℕ → ℤ
listed list c i = get_or list (6 * (c - 1) + (i - 1)) (pos 0)

unfoldable pub size_by : List ℕ → ℕ → ℕ → ℕ
size_by sizes c i = get_or sizes (scenarios * (c - 1) + i) 0

unfoldable pub option_size_by : List ℕ → ℕ → ℕ → ℕ
option_size_by sizes c i = get_or sizes (6 * (c - 1) + (i - 1)) 0

abbrev pub totals_by : (ledger add_ons rates : List ℤ) → Totals
totals_by ledger add_ons rates = record { cell = cell_by ledger; add_on = listed add_ons; rate = cell_by rates }

abbrev pub so_far_by : (curved : ℕ) → (sizes option_sizes : List ℕ) → SoFar
so_far_by curved sizes option_sizes = record { curved = curved_by curved; size = size_by sizes; option_size = option_size_by option_sizes }

-- the same of one currency, by its own parts: whichever currency is asked for is this one
abbrev pub so_far_in : (curved : Bool) → (sizes option_sizes : List ℕ) → SoFar
so_far_in curved sizes option_sizes = record { curved = λ c. curved; size = λ c i. get_or sizes i 0; option_size = λ c i. get_or option_sizes (i - 1) 0 }
