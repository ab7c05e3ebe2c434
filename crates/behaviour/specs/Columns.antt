-- Kinds 5 and 6 are worked out bucket by bucket, at the three rates side by side. At rate r, counted from 0, so many buckets are passed.
use Rattle.std.specs.Prelude.{ℕ, ◌+◌, ◌*◌, ◌-◌, ◌<◌, List, map, ◌≡◌, length, get_or}
use Rattle.laws.specs.Sums.{sum}
use Rattle.paper.specs.Ladder.{buckets}
use Rattle.paper.specs.Behaviour.{outstanding_at, loan_flow, moved}
use Rattle.fields.specs.Answers.{amounts_from}
use Rattle.behaviour.specs.declared.course.Course.{Course}

-- the rows have f r j in bucket j + 1 at rate r
pub record Columns (f : ℕ → ℕ → ℕ) (passed : ℕ → ℕ) (rows : List ℕ) : Type 0 where
  pub long : length rows ≡ buckets * 3
  pub at : (r j : ℕ) → r < 3 → j < passed r → get_or rows (buckets * r + j) 0 ≡ f r j

-- a number that is kept for each rate is g r of the buckets passed
pub record Kept (g : ℕ → ℕ → ℕ) (passed : ℕ → ℕ) (kept : List ℕ) : Type 0 where
  pub long : length kept ≡ 3
  pub at : (r : ℕ) → r < 3 → get_or kept r 0 ≡ g r (passed r)

-- kind 5: the flows, their sums, and the balances before the next payment
pub record LoanReached (rates body : List ℕ) (passed : ℕ → ℕ) (balances rows sums : List ℕ) : Type 0 where
  pub flows : Columns (λ r. loan_flow (get_or rates r 0) (amounts_from body 3) (amounts_from body 79)) passed rows
  pub added : Kept (λ r. sum (loan_flow (get_or rates r 0) (amounts_from body 3) (amounts_from body 79))) passed sums
  pub left : Kept (λ r. outstanding_at (get_or rates r 0) (amounts_from body 3)) passed balances

-- by the loan's courses at the three rates
abbrev pub rates : List Course → List ℕ
rates = map (λ c. c.rate)

abbrev pub balances : List Course → List ℕ
balances = map (λ c. c.balance.0)

abbrev pub sums : List Course → List ℕ
sums = map (λ c. c.sum.0)

abbrev pub CoursesReached : List ℕ → (ℕ → ℕ) → List Course → List ℕ → Type 0
CoursesReached body passed courses rows = LoanReached (rates courses) body passed (balances courses) rows (sums courses)

-- kind 6: what stays of each amount, and all that moved
pub record DepositReached (rates body : List ℕ) (passed : ℕ → ℕ) (rows early : List ℕ) : Type 0 where
  pub stays : Columns (λ r j. get_or (amounts_from body 3) j 0 - moved (get_or rates r 0) (get_or (amounts_from body 3) j 0)) passed rows
  pub moves : Kept (λ r. sum (λ j. moved (get_or rates r 0) (get_or (amounts_from body 3) j 0))) passed early
