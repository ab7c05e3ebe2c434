-- Behaviour of deposits and loans (001, 6; 01, "Records", kinds 4 to 6). Lists of amounts are by bucket, 19 of them.
use Rattle.std.specs.Prelude.{ℕ, zero, suc, ◌+◌, ◌*◌, ◌-◌, ◌/◌, min, List, [], ◌∷◌, get_or, drop, if◌then◌else◌}
use Rattle.laws.specs.Tests.{◌is◌}
use Rattle.laws.specs.Sums.{sum, total, sum_of}
use Rattle.paper.specs.Ladder.{buckets, midpoint, width}

-- ---- kind 4: a core and the rest (001, 6.1, table 4)

-- the core is at most so many per cent of the total, by category
abbrev pub core_cap : ℕ → ℕ
core_cap category = get_or (0 ∷ 90 ∷ 70 ∷ 50 ∷ []) category 0

-- and its average midpoint at most 5, 4.5, 4 years, in ten-thousandths
abbrev pub average_cap : ℕ → ℕ
average_cap category = get_or (0 ∷ 50000 ∷ 45000 ∷ 40000 ∷ []) category 0

-- the core's amounts times midpoints: its average midpoint times its sum
unfoldable pub weighed_core : List ℕ → ℕ
weighed_core core = sum (λ k. get_or core k 0 * midpoint k) buckets

-- total less core joins bucket 1
unfoldable pub deposit_flow : ℕ → List ℕ → ℕ → ℕ
deposit_flow total core k = get_or core k 0 + (if k is 0 then total - sum_of core else 0)

-- ---- kinds 5 and 6: a rate in hundred-thousandths, from the share and the scenario (001, tables 5 and 6)

abbrev pub whole_rate : ℕ
whole_rate = 100000

-- the multiplier of each scenario, the base first
unfoldable pub prepayment_multipliers : List ℕ
prepayment_multipliers = 10 ∷ 8 ∷ 12 ∷ 8 ∷ 12 ∷ 8 ∷ 12 ∷ []

unfoldable pub withdrawal_multipliers : List ℕ
withdrawal_multipliers = 10 ∷ 12 ∷ 8 ∷ 8 ∷ 12 ∷ 12 ∷ 8 ∷ []

unfoldable pub behavioural_rate : List ℕ → ℕ → ℕ → ℕ
behavioural_rate multipliers share i = min (share * get_or multipliers i 0) whole_rate

abbrev pub prepayment_rate : ℕ → ℕ → ℕ
prepayment_rate = behavioural_rate prepayment_multipliers

abbrev pub withdrawal_rate : ℕ → ℕ → ℕ
withdrawal_rate = behavioural_rate withdrawal_multipliers

-- ---- kind 5, in one bucket (001, 6.3; 02, request 3): of what is scheduled and what is outstanding before payment

unfoldable pub paid : ℕ → ℕ → ℕ
paid scheduled outstanding = min scheduled outstanding

-- the whole rate for a year of twelve months
abbrev pub whole_year : ℕ
whole_year = 1200000

-- the rate is a year's: its part for the bucket's width in months, rounded once, at most what payment leaves
unfoldable pub prepaid : ℕ → ℕ → ℕ → ℕ → ℕ
prepaid rate months scheduled outstanding = min (outstanding * rate * months / whole_year) (outstanding - paid scheduled outstanding)

-- nil where scheduled interest is nil
unfoldable pub interest : ℕ → ℕ → ℕ → ℕ
interest scheduled_interest outstanding scheduled_outstanding =
    if scheduled_interest is 0 then 0 else scheduled_interest * outstanding / scheduled_outstanding

-- ---- kind 5, bucket by bucket

-- outstanding before payment: it starts as all principal
unfoldable pub outstanding_at : ℕ → List ℕ → ℕ → ℕ
outstanding_at rate principals zero = sum_of principals
outstanding_at rate principals (suc k) =
    let outstanding = outstanding_at rate principals k in
    outstanding - paid (get_or principals k 0) outstanding - prepaid rate (width k) (get_or principals k 0) outstanding

-- scheduled outstanding before payment: the principals from this bucket on
unfoldable pub scheduled_at : List ℕ → ℕ → ℕ
scheduled_at principals k = sum_of (drop k principals)

unfoldable pub paid_at : ℕ → List ℕ → ℕ → ℕ
paid_at rate principals k = paid (get_or principals k 0) (outstanding_at rate principals k)

unfoldable pub prepaid_at : ℕ → List ℕ → ℕ → ℕ
prepaid_at rate principals k = prepaid rate (width k) (get_or principals k 0) (outstanding_at rate principals k)

unfoldable pub interest_at : ℕ → List ℕ → List ℕ → ℕ → ℕ
interest_at rate principals interests k = interest (get_or interests k 0) (outstanding_at rate principals k) (scheduled_at principals k)

-- the flow is all three
unfoldable pub loan_flow : ℕ → List ℕ → List ℕ → ℕ → ℕ
loan_flow rate principals interests k = paid_at rate principals k + prepaid_at rate principals k + interest_at rate principals interests k

-- ---- kind 6 (001, 6.4): the part of an amount that moves to bucket 1, rounded down bucket by bucket

unfoldable pub moved : ℕ → ℕ → ℕ
moved rate amount = amount * rate / whole_rate

unfoldable pub term_deposit_flow : ℕ → List ℕ → ℕ → ℕ
term_deposit_flow rate amounts k =
    get_or amounts k 0 - moved rate (get_or amounts k 0) + (if k is 0 then total (moved rate) amounts else 0)
