-- Time ladder (001, table 3). A bucket is 1 to 19; in lists and sums it stands at k = bucket - 1.
use Rattle.std.specs.Prelude.{ℕ, suc, ◌+◌, Bool, ◌&&◌, ◌||◌, List, [], ◌∷◌, map, get_or}
use Rattle.laws.specs.Tests.{◌is◌, ◌up_to◌, ◌below◌, first}

abbrev pub buckets : ℕ
buckets = 19

-- a term is months and days
pub record Term : Type 0 where
  pub months : ℕ
  pub days : ℕ

abbrev pub in_months : ℕ → Term
in_months m = record { months = m; days = 0 }

-- the book's own date
abbrev pub today : Term
today = in_months 0

-- so many months later, the same days
abbrev pub later : ℕ → Term → Term
later m t = record { months = t.months + m; days = t.days }

-- compared by months and then days
unfoldable pub not_after : Term → Term → Bool
not_after t u = t.months below u.months || (t.months is u.months && t.days up_to u.days)

-- the upper ends of buckets 1 to 18, each belonging to its bucket; bucket 19 is all above
unfoldable pub upper_ends : List Term
upper_ends =
    record { months = 0; days = 1 }
    ∷ map in_months (1 ∷ 3 ∷ 6 ∷ 9 ∷ 12 ∷ 18 ∷ 24 ∷ 36 ∷ 48 ∷ 60 ∷ 72 ∷ 84 ∷ 96 ∷ 108 ∷ 120 ∷ 180 ∷ 240 ∷ [])

abbrev pub upper_end : ℕ → Term
upper_end k = get_or upper_ends k (in_months 0)

-- the first bucket whose end is not before the term
unfoldable pub bucket_of : Term → ℕ
bucket_of t = suc (first (λ k. not_after t (upper_end k)) 0 18)

-- in ten-thousandths of a year
unfoldable pub midpoints : List ℕ
midpoints =
    28 ∷ 417 ∷ 1667 ∷ 3750 ∷ 6250 ∷ 8750 ∷ 12500 ∷ 17500 ∷ 25000 ∷ 35000 ∷ 45000 ∷ 55000 ∷ 65000 ∷ 75000 ∷ 85000 ∷ 95000 ∷ 125000
    ∷ 175000 ∷ 250000 ∷ []

abbrev pub midpoint : ℕ → ℕ
midpoint k = get_or midpoints k 0

-- in months (02, request 3): one night has none, and what is above twenty years has ten years
unfoldable pub widths : List ℕ
widths = 0 ∷ 1 ∷ 2 ∷ 3 ∷ 3 ∷ 3 ∷ 6 ∷ 6 ∷ 12 ∷ 12 ∷ 12 ∷ 12 ∷ 12 ∷ 12 ∷ 12 ∷ 12 ∷ 60 ∷ 60 ∷ 120 ∷ []

abbrev pub width : ℕ → ℕ
width k = get_or widths k 0
