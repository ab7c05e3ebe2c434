-- The texts of what stands behind a report.
use Rattle.std.specs.Prelude.{ℕ, List}
use Rattle.paper.specs.Ledger.{Totals}
use Rattle.arrays.specs.Rooms.{totals_by}
use Rattle.detail.specs.declared.behind.Behind.{Behind}
use Rattle.detail.specs.declared.standing.Standing.{Standing}
use Rattle.detail.specs.Behind.{currency_by, behind_by}

abbrev pub totals_in : Behind → Totals
totals_in behind = totals_by behind.ledger.now behind.add_ons.now behind.rates.now

abbrev pub currency_in : Behind → ℕ → List ℕ
currency_in behind = currency_by behind.ledger.now behind.rates.now behind.add_ons.now behind.counts.now

-- with the number of all records
abbrev pub behind_in : Behind → ℕ → Standing → List ℕ
behind_in behind n standing =
    behind_by behind.ledger.now behind.rates.now behind.add_ons.now behind.counts.now behind.curved n standing.measure.0 standing.tier1.0
