-- What a list of figures, changes or tolerances, six for each currency, keeps to. Past the last currency that has any they are nil.
use Rattle.std.specs.Prelude.{ℕ, ◌*◌, ◌≤◌, List, ◌≡◌, ℤ, pos, nat_abs, length, get_or}
use Rattle.paper.specs.Records.{currencies}
use Rattle.paper.specs.Flow.{shocked}
use Rattle.change.specs.Figures.{most_of_a_change}

abbrev pub most_of_a_sum : ℕ
most_of_a_sum = currencies * most_of_a_change

pub record Figures (last : ℕ) (list : List ℤ) : Type 0 where
  pub long : length list ≡ shocked * currencies
  pub most : last ≤ currencies
  pub nil : (j : ℕ) → shocked * last ≤ j → get_or list j (pos 0) ≡ pos 0
  pub small : (j : ℕ) → nat_abs (get_or list j (pos 0)) ≤ most_of_a_change
