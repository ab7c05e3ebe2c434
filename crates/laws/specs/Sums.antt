-- Sums over an index and over a list, of naturals and of integers.
use Rattle.std.specs.Prelude.{ℕ, zero, suc, ◌+◌, max, Bool, false, ◌||◌, List, [], ◌∷◌, ℤ, pos, ◌+ℤ◌}

-- f 0 + .. + f (n - 1)
unfoldable pub sum : (ℕ → ℕ) → ℕ → ℕ
sum f zero = 0
sum f (suc n) = sum f n + f n

unfoldable pub sum_ℤ : (ℕ → ℤ) → ℕ → ℤ
sum_ℤ f zero = pos 0
sum_ℤ f (suc n) = sum_ℤ f n +ℤ f n

-- f x added over the list
unfoldable pub total : {A : Type 0} → (A → ℕ) → List A → ℕ
total f [] = 0
total f (x ∷ xs) = f x + total f xs

unfoldable pub total_ℤ : {A : Type 0} → (A → ℤ) → List A → ℤ
total_ℤ f [] = pos 0
total_ℤ f (x ∷ xs) = f x +ℤ total_ℤ f xs

-- a list's own numbers added
abbrev pub sum_of : List ℕ → ℕ
sum_of = total (λ x. x)

-- some element of the list passes the test
unfoldable pub some : {A : Type 0} → (A → Bool) → List A → Bool
some p [] = false
some p (x ∷ xs) = p x || some p xs

-- the greatest of f 1, .., f n, and 0 at least
unfoldable pub greatest : (ℕ → ℕ) → ℕ → ℕ
greatest f zero = 0
greatest f (suc n) = max (greatest f n) (f (suc n))
