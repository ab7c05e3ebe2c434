-- The numbers to hold to that are marked P, those of kind 5 worked by hand for its yearly rate (02, request 3), and two loans more: one table with a
-- single claim. A row is what the definitions give, and what is stated.
use Prim.Native.Nat.{ℕ, ◌+◌, ◌*◌, ◌-◌}
use mathlib.Core.Path.{◌≡◌, refl}
use mathlib.Core.List.{List, [], ◌∷◌, ◌++◌, map}
use lib.IntN.{pos}
use lib.ListN.{replicate}
use Rattle.laws.specs.Tests.{first}
use Rattle.laws.specs.Sums.{sum, total}
use Rattle.laws.specs.Nearest.{nearest}
use Rattle.laws.specs.Lists.{tabulate_from, tabulate}
use Rattle.laws.specs.Series.{factorial}
use Rattle.paper.specs.Ladder.{buckets, not_after, upper_ends, bucket_of, midpoints, midpoint, widths}
use Rattle.paper.specs.Series.{denominator, series_term, numerator, billion_over_e}
use Rattle.paper.specs.Factor.{entry, digit, after_digits, factor}
use Rattle.paper.specs.Behaviour.{prepayment_multipliers, withdrawal_multipliers, behavioural_rate, prepayment_rate, withdrawal_rate, paid, prepaid, interest, outstanding_at, scheduled_at, paid_at, prepaid_at, interest_at, loan_flow, moved, term_deposit_flow}

abbrev bucket_at : ℕ → ℕ → ℕ
bucket_at months days = bucket_of (record { months = months; days = days })

abbrev factor_at : ℕ → ℕ → ℕ
factor_at rate bucket = factor (pos (rate * midpoint (bucket - 1)))

-- an amount in one bucket
abbrev only : ℕ → ℕ → List ℕ
only bucket amount = replicate (bucket - 1) 0 ++ (amount ∷ replicate (19 - bucket) 0)

-- of a loan: what is paid, prepaid and due as interest in each bucket, and the flow
abbrev loan_in : ℕ → ℕ → List ℕ → List ℕ → List ℕ
loan_in scenario share principals interests =
    let rate = prepayment_rate share scenario in
    tabulate (paid_at rate principals) buckets
    ++ tabulate (prepaid_at rate principals) buckets
    ++ tabulate (interest_at rate principals interests) buckets
    ++ tabulate (loan_flow rate principals interests) buckets

-- so much paid in one bucket, so much prepaid in each one before it, and so much interest
abbrev loan_of : ℕ → ℕ → List ℕ → ℕ → List ℕ
loan_of bucket last early charge =
    let after : List ℕ = replicate (19 - bucket) 0 in
    only bucket last ++ early ++ (0 ∷ after) ++ only bucket charge ++ early ++ ((last + charge) ∷ after)

-- amounts in buckets 9, 17 and 18
abbrev in_three : ℕ → ℕ → ℕ → List ℕ
in_three ninth next last = replicate 8 0 ++ (ninth ∷ replicate 7 0) ++ (next ∷ last ∷ 0 ∷ [])

-- 1,000 in bucket 6: what scenario 1 puts into bucket 1, and leaves in bucket 6
abbrev deposit_in : ℕ → List ℕ
deposit_in share = let flow = term_deposit_flow (withdrawal_rate share 1) (only 6 1000) in flow 0 ∷ flow 5 ∷ []

pub record Row : Type 0 where
  pub given : List ℕ
  pub stated : List ℕ

unfoldable pub table : List Row
table =
    record {
      given = bucket_at 0 1 ∷ bucket_at 0 2 ∷ bucket_at 1 0 ∷ bucket_at 1 1 ∷ bucket_at 240 0 ∷ bucket_at 240 1 ∷ [];
      stated = 1 ∷ 2 ∷ 2 ∷ 3 ∷ 18 ∷ 19 ∷ [];
    }
    ∷ record { given = factor (pos 0) ∷ factor_at 40000 19 ∷ factor_at 40000 18 ∷ []; stated = 1000000000 ∷ 367879441 ∷ 496585304 ∷ [] }
    ∷ record { given = loan_in 0 1000 (only 9 1000) (only 9 100); stated = loan_of 9 818 (0 ∷ 8 ∷ 16 ∷ 24 ∷ 23 ∷ 23 ∷ 45 ∷ 43 ∷ []) 81 }
    ∷ record { given = loan_in 1 1000 (only 9 1000) (only 9 100); stated = loan_of 9 853 (0 ∷ 6 ∷ 13 ∷ 19 ∷ 19 ∷ 18 ∷ 37 ∷ 35 ∷ []) 85 }
    -- due in the last bucket instead: the widths up to bucket 18, and in bucket 17 178, where a second rounding would give 175
    ∷ record {
      given = loan_in 0 1000 (only 19 1000) (only 19 100);
      stated = loan_of 19 89 (0 ∷ 8 ∷ 16 ∷ 24 ∷ 23 ∷ 23 ∷ 45 ∷ 43 ∷ 81 ∷ 73 ∷ 66 ∷ 59 ∷ 53 ∷ 48 ∷ 43 ∷ 39 ∷ 178 ∷ 89 ∷ []) 8;
    }
    -- paid on the way: in bucket 9 the rate is on the 663 before payment, in bucket 17 it asks for all 29, and payment leaves 19
    ∷ record {
      given = loan_in 0 2000 (in_three 400 10 590) (in_three 40 300 100);
      stated =
          in_three 400 10 0
          ++ (0 ∷ 16 ∷ 32 ∷ 47 ∷ 45 ∷ 43 ∷ 81 ∷ 73 ∷ 132 ∷ 26 ∷ 21 ∷ 16 ∷ 13 ∷ 11 ∷ 8 ∷ 7 ∷ 19 ∷ 0 ∷ 0 ∷ [])
          ++ in_three 26 14 0
          ++ (0 ∷ 16 ∷ 32 ∷ 47 ∷ 45 ∷ 43 ∷ 81 ∷ 73 ∷ 558 ∷ 26 ∷ 21 ∷ 16 ∷ 13 ∷ 11 ∷ 8 ∷ 7 ∷ 43 ∷ 0 ∷ 0 ∷ []);
    }
    ∷ record { given = deposit_in 6000; stated = 720 ∷ 280 ∷ [] }
    ∷ record { given = deposit_in 9000; stated = 1000 ∷ 0 ∷ [] }
    ∷ []

pub numbers-hold : map (λ r. r.given) table ≡ map (λ r. r.stated) table
unfolding table first sum total nearest tabulate_from factorial not_after upper_ends bucket_of midpoints widths denominator series_term numerator billion_over_e entry digit after_digits factor prepayment_multipliers withdrawal_multipliers behavioural_rate paid prepaid interest outstanding_at scheduled_at paid_at prepaid_at interest_at loan_flow moved term_deposit_flow
numbers-hold = refl
