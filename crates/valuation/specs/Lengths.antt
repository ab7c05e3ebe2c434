-- How long the arrays are that a report is made of.
use Rattle.std.specs.Prelude.{◌*◌, List, ◌≡◌, ℤ, length}
use Rattle.paper.specs.Records.{currencies}
use Rattle.paper.specs.Flow.{shocked}
use Rattle.paper.specs.Ledger.{cells, figures}

-- ledger, rates and add-ons of a book, and the report's room
abbrev pub ReportLengths : (ledger rates add_ons report : List ℤ) → Type 0
ReportLengths ledger rates add_ons report =
    (length ledger ≡ cells currencies) × (length rates ≡ cells currencies) × (length add_ons ≡ shocked * currencies) × (length report ≡ figures currencies)
