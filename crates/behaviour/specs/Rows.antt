-- Kinds 5 and 6: what the function of a loan may rely on, the three rates that there are, and the rows of flows that each of them gives.
use Rattle.std.specs.Prelude.{ℕ, ◌+◌, ◌*◌, ◌/◌, ◌%◌, ◌<◌, ◌≤◌, false, List, [], ◌∷◌, ◌≡◌}
use Rattle.laws.specs.Sums.{sum, sum_of}
use Rattle.laws.specs.Lists.{tabulate}
use Rattle.paper.specs.Scales.{billion}
use Rattle.paper.specs.Ladder.{buckets}
use Rattle.paper.specs.Behaviour.{behavioural_rate, loan_flow, term_deposit_flow}
use Rattle.paper.specs.TurnedDown.{interest_alone}
use Rattle.fields.specs.Answers.{amounts_from}
use Rattle.posting.specs.Parts.{AtMost}

-- the multipliers that there are (001, tables 5 and 6), that of the base first
unfoldable pub three_multipliers : List ℕ
three_multipliers = 10 ∷ 8 ∷ 12 ∷ []

-- a loan's scheduled amounts: each in its range, no interest alone, and all of them at most a billion
pub record SoundSchedule (principals interests : List ℕ) : Type 0 where
  pub principals-small : AtMost billion principals
  pub interests-small : AtMost billion interests
  pub none-alone : (k : ℕ) → k < buckets → interest_alone principals interests k ≡ false
  pub all_small : sum_of principals + sum_of interests ≤ billion

-- the rows of nineteen flows of a body of kind 5, one row for each of the three rates, and the sum of each row
abbrev pub loan_rows : ℕ → List ℕ → List ℕ
loan_rows share body =
    tabulate (λ j. loan_flow (behavioural_rate three_multipliers share (j / buckets)) (amounts_from body 3) (amounts_from body 79) (j % buckets)) (buckets * 3)

abbrev pub loan_sums : ℕ → List ℕ → List ℕ
loan_sums share body = tabulate (λ i. sum (loan_flow (behavioural_rate three_multipliers share i) (amounts_from body 3) (amounts_from body 79)) buckets) 3

-- the same of kind 6
abbrev pub term_deposit_rows : ℕ → List ℕ → List ℕ
term_deposit_rows share body = tabulate (λ j. term_deposit_flow (behavioural_rate three_multipliers share (j / buckets)) (amounts_from body 3) (j % buckets)) (buckets * 3)
