-- Sets of small numbers as masks: i is in the set where the binary digit i of the mask is 1.
use Rattle.std.specs.Prelude.{ℕ, zero, suc, ◌/◌, ◌%◌, Bool, eqb}

-- the binary digit i of m
unfoldable pub bit : ℕ → ℕ → ℕ
bit m zero = m % 2
bit m (suc i) = bit (m / 2) i

unfoldable pub has : ℕ → ℕ → Bool
has m i = eqb (bit m i) 1
