-- The counts of the records at some places: ten for each currency, a kind each.
use Rattle.std.specs.Prelude.{ℕ, suc, ◌≤◌, List, ℤ, pos, nat_abs, get_or}
use Rattle.paper.specs.Records.{kind_count}
use Rattle.paper.specs.TurnedDown.{longest_book}
use Rattle.paper.specs.Detail.{among}
use Rattle.arrays.specs.Arrays.{by_currency}

unfoldable pub counts_of : List ℕ → List ℕ → List ℤ
counts_of book ps = by_currency kind_count (λ c j. pos (among book ps c (suc j)))

-- no more than a book has bytes
abbrev pub Few : List ℤ → Type 0
Few counts = (j : ℕ) → nat_abs (get_or counts j (pos 0)) ≤ longest_book
