-- Sums over a list: one element more at its end, bounds, and the same sums taken by index.
use Prim.Native.Nat.{ℕ, zero, suc, ◌+◌, ◌≤◌}
use mathlib.Core.Bool.{Bool, true, false, ◌||◌}
use mathlib.Core.List.{List, [], ◌∷◌, ◌++◌}
use mathlib.Core.Path.{◌≡◌, refl, sym, ap, ap₂, ◌∙◌}
use native.Mathlib.Nat.{le_refl}
use native.Mathlib.Omega.{arith}
use lib.IntN.{ℤ, pos, nat_abs, ◌+ℤ◌, +ℤ_assoc, +ℤ_comm}
use lib.ListN.{length, get_or, drop}
use Rattle.laws.specs.Sums.{sum, total, total_ℤ, sum_of, some}
use Rattle.laws.specs.Lists.{tabulate}
use Rattle.laws.proofs.Integers.{abs-add}
use Rattle.laws.proofs.Sums.{sum-front, sum-nil, sum-none, sum-add, sum-ext}
use Rattle.laws.proofs.Lists.{tabulate-length, tabulate-at}

module _ {A : Type 0} where
  -- ---- one element more

  pub total-more : (f : A → ℕ) (xs : List A) (x : A) → total f (xs ++ (x ∷ [])) ≡ total f xs + f x
  unfolding total
  total-more f [] x = omega arith
  total-more f (y ∷ xs) x = omega (arith, total-more f xs x)

  pub total_ℤ-more : (f : A → ℤ) (xs : List A) (x : A) → total_ℤ f (xs ++ (x ∷ [])) ≡ total_ℤ f xs +ℤ f x
  unfolding total_ℤ
  total_ℤ-more f [] x = +ℤ_comm (f x) (pos 0)
  total_ℤ-more f (y ∷ xs) x = ap (λ (z : ℤ). f y +ℤ z) (total_ℤ-more f xs x) ∙ sym (+ℤ_assoc (f y) (total_ℤ f xs) (f x))

  pub some_more : (p : A → Bool) (xs : List A) (x : A) → some p (xs ++ (x ∷ [])) ≡ some p xs || p x
  unfolding some
  some_more p [] x = or-last (p x)
    where
      or-last : (a : Bool) → a || false ≡ a
      or-last true = refl
      or-last false = refl
  some_more p (y ∷ xs) x = ap (λ (b : Bool). p y || b) (some_more p xs x) ∙ or_assoc (p y) (some p xs) (p x)
    where
      or_assoc : (a b c : Bool) → a || (b || c) ≡ a || b || c
      or_assoc true b c = refl
      or_assoc false b c = refl

  -- ---- element by element

  -- ones are as many as there are elements
  pub total-ones : (xs : List A) → total (λ x. 1) xs ≡ length xs
  unfolding total
  total-ones [] = refl
  total-ones (x ∷ xs) = omega (arith, total-ones xs)

  pub total_ext : (f g : A → ℕ) (xs : List A) → ((x : A) → f x ≡ g x) → total f xs ≡ total g xs
  unfolding total
  total_ext f g [] h = refl
  total_ext f g (x ∷ xs) h = ap₂ ◌+◌ (h x) (total_ext f g xs h)

  pub total_ℤ-ext : (f g : A → ℤ) (xs : List A) → ((x : A) → f x ≡ g x) → total_ℤ f xs ≡ total_ℤ g xs
  unfolding total_ℤ
  total_ℤ-ext f g [] h = refl
  total_ℤ-ext f g (x ∷ xs) h = ap₂ ◌+ℤ◌ (h x) (total_ℤ-ext f g xs h)

  pub total-le : (f g : A → ℕ) (xs : List A) → ((x : A) → f x ≤ g x) → total f xs ≤ total g xs
  unfolding total
  total-le f g [] h = le_refl 0
  total-le f g (x ∷ xs) h = omega (arith, h x, total-le f g xs h)

  pub abs-total : (f : A → ℤ) (xs : List A) → nat_abs (total_ℤ f xs) ≤ total (λ x. nat_abs (f x)) xs
  unfolding total total_ℤ
  abs-total f [] = le_refl 0
  abs-total f (x ∷ xs) = omega (arith, abs-total f xs, abs-add (f x) (total_ℤ f xs))

  -- ---- by index

  -- the two sums may change places
  pub sum-total : (f : A → ℕ → ℕ) (xs : List A) (n : ℕ) → sum (λ k. total (λ x. f x k) xs) n ≡ total (λ x. sum (f x) n) xs
  unfolding total
  sum-total f [] n = sum-nil n
  sum-total f (x ∷ xs) n = sum-add (f x) (λ k. total (λ y. f y k) xs) n ∙ ap (λ (s : ℕ). sum (f x) n + s) (sum-total f xs n)

  -- the elements read one by one, where what stands past the end adds nothing
  pub sum-elements : (f : A → ℕ) (d : A) → f d ≡ 0 → (xs : List A) (n : ℕ) → length xs ≤ n → sum (λ k. f (get_or xs k d)) n ≡ total f xs
  unfolding total
  sum-elements f d z [] n h = sum-none (λ k. f d) n (λ k l. z)
  sum-elements f d z (x ∷ xs) zero h = absurd (omega arith)
  sum-elements f d z (x ∷ xs) (suc n) h =
      sum-front (λ k. f (get_or (x ∷ xs) k d)) n ∙ ap (λ (s : ℕ). f x + s) (sum-elements f d z xs n (omega arith))

pub sum-list : (f : ℕ → ℕ) → f 0 ≡ 0 → (xs : List ℕ) (n : ℕ) → length xs ≤ n → sum (λ k. f (get_or xs k 0)) n ≡ total f xs
sum-list f z = sum-elements f 0 z

pub sum-get_or : (xs : List ℕ) (n : ℕ) → length xs ≤ n → sum (λ k. get_or xs k 0) n ≡ sum_of xs
sum-get_or = sum-elements (λ x. x) 0 refl

-- a rule's numbers added, as a list and by the index
pub sum-tabulate : (f : ℕ → ℕ) (n : ℕ) → sum_of (tabulate f n) ≡ sum f n
sum-tabulate f n =
    sym (sum-get_or (tabulate f n) n (omega (arith, tabulate-length f n))) ∙ sum-ext _ f n (λ k l. tabulate-at f n k 0 l)

-- from the place k on: the number there, and the rest
pub sum_drop : (xs : List ℕ) (k : ℕ) → sum_of (drop k xs) ≡ get_or xs k 0 + sum_of (drop (suc k) xs)
unfolding total
sum_drop [] zero = refl
sum_drop [] (suc k) = refl
sum_drop (x ∷ xs) zero = refl
sum_drop (x ∷ xs) (suc k) = sum_drop xs k
