-- Discount factor, in billionths. An exponent X is in units of 10^-10.
use Rattle.std.specs.Prelude.{ℕ, zero, suc, ◌*◌, ◌-◌, ◌/◌, ◌%◌, ◌^◌, ℤ, pos, negsuc, neg_ℤ, ◌≤ℤ◌}
use Rattle.laws.specs.Nearest.{nearest}
use Rattle.paper.specs.Scales.{billion}
use Rattle.paper.specs.Series.{billion_over_e}

-- the table entry for the digit d of weight 10^-w: a billion over E(d 10^-w)
unfoldable pub entry : ℕ → ℕ → ℕ
entry w d = billion_over_e (d * 10 ^ (10 - w))

-- Y's digit of weight 10^-w, w from 0 to 10
unfoldable pub digit : ℕ → ℕ → ℕ
digit Y w = Y / 10 ^ (10 - w) % 10

-- the start, after Y's first w digits: multiply by the table entry and divide by a billion, halves up
unfoldable pub after_digits : ℕ → ℕ → ℕ → ℕ
after_digits start Y zero = start
after_digits start Y (suc w) = nearest (after_digits start Y w * entry w (digit Y w)) billion

-- below zero the start is the nearest to a billion times E(1.25), and Y counts up from -1.25
abbrev pub low_start : ℕ
low_start = 3490342957

abbrev pub low_end : ℕ
low_end = 12500000000

unfoldable pub factor : ℤ → ℕ
factor (pos X) = after_digits billion X 11
factor (negsuc n) = after_digits low_start (low_end - suc n) 11

-- from -12,500,000,000 up to 99,999,999,999: every exponent that a rate of -50,000 to 300,000 and a midpoint make, with no list of midpoints
pub record InRange (X : ℤ) : Type 0 where
  pub low : neg_ℤ (pos 12500000000) ≤ℤ X
  pub high : X ≤ℤ pos 99999999999
