-- Division to a whole number: to the nearest, halves up; to the nearest, halves away from zero; rounded up.
use Rattle.std.specs.Prelude.{ℕ, suc, ◌+◌, ◌*◌, ◌-◌, ◌/◌, ℤ, pos, negsuc, neg_ℤ}

-- the nearest whole number to a / b, halves up
unfoldable pub nearest : ℕ → ℕ → ℕ
nearest a b = (2 * a + b) / (2 * b)

-- the nearest whole number to z / b, halves away from zero
unfoldable pub nearest_ℤ : ℤ → ℕ → ℤ
nearest_ℤ (pos n) b = pos (nearest n b)
nearest_ℤ (negsuc n) b = neg_ℤ (pos (nearest (suc n) b))

-- a / b, rounded up
unfoldable pub rounded_up : ℕ → ℕ → ℕ
rounded_up a b = (a + (b - 1)) / b
