-- The table of tables: a row for each of the six largest weights, ten entries in it, by the paper's rule. The entries of the others are worked out.
use Rattle.std.specs.Prelude.{ℕ, List}
use Rattle.laws.specs.Lists.{tabulate}
use Rattle.paper.specs.Factor.{entry}

unfoldable pub rows : List (List ℕ)
rows = tabulate (λ w. tabulate (entry w) 10) 6
