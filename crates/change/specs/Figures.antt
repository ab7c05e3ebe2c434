-- Figures by currency and scenario, changes or tolerances, in a list of six for each currency, as the report has the changes.
use Rattle.std.specs.Prelude.{ℕ, ◌+◌, ◌*◌, List, [], ℤ, pos}
use Rattle.laws.specs.Lists.{tabulate_from, splice}
use Rattle.paper.specs.Scales.{billion}
use Rattle.paper.specs.Flow.{shocked}
use Rattle.paper.specs.Ledger.{Totals}
use Rattle.paper.specs.Change.{change, tolerance}
use Rattle.arrays.specs.Rooms.{totals_by}

abbrev pub tolerances : Totals → ℕ → ℕ → ℤ
tolerances t c i = pos (tolerance t c i)

-- ---- one currency's, from its own parts of the arrays, which are read as currency 1's

abbrev pub own_changes : (cells add_ons rates : List ℤ) → List ℤ
own_changes cells add_ons rates = tabulate_from (change (totals_by cells add_ons rates) 1) 1 shocked

abbrev pub own_tolerances : (cells : List ℤ) → List ℤ
own_tolerances cells = tabulate_from (tolerances (totals_by cells [] []) 1) 1 shocked

-- ---- the list with the six figures of currency c + 1 in their place

abbrev pub with_figures : (ℕ → ℕ → ℤ) → ℕ → List ℤ → List ℤ
with_figures f c list = splice (shocked * c) shocked list (tabulate_from (f (c + 1)) 1 shocked)

abbrev pub with_changes : (ledger add_ons rates : List ℤ) → ℕ → List ℤ → List ℤ
with_changes ledger add_ons rates = with_figures (change (totals_by ledger add_ons rates))

abbrev pub with_tolerances : (ledger add_ons rates : List ℤ) → ℕ → List ℤ → List ℤ
with_tolerances ledger add_ons rates = with_figures (tolerances (totals_by ledger add_ons rates))

-- ---- a bound

-- a change is at most seven billion from two values, each of a billion of flows times at most 3,490,342,957, and a billion from the add-on
abbrev pub most_of_a_change : ℕ
most_of_a_change = 8 * billion
