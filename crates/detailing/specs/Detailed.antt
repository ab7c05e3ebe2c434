-- What stands behind the report of the records kept, with a measure; and the longest text that the detail program prints.
use Rattle.std.specs.Prelude.{ℕ, ◌+◌, List, ◌++◌, pos, length}
use Rattle.paper.specs.Records.{Record, currencies}
use Rattle.paper.specs.Ledger.{totals, curved}
use Rattle.paper.specs.Program.{curved_lines}
use Rattle.paper.specs.Detail.{places, taken, currency_text, closing_text}
use Rattle.text.specs.Longest.{longest_text}
use Rattle.detail.specs.Behind.{longest_behind}

abbrev pub behind_kept : List ℕ → List Record → ℕ → ℕ → List ℕ
behind_kept book kept m T =
    curved_lines (curved kept) (currency_text (totals kept) (λ c kind. pos (taken book c kind))) currencies ++ closing_text (length (places book)) m T

abbrev pub longest_detail : ℕ
longest_detail = longest_text + longest_behind
