-- Lists given by a rule of the index, and sections of lists.
use Rattle.std.specs.Prelude.{ℕ, zero, suc, List, [], ◌∷◌, ◌++◌, length, get_or, take, drop}

module _ {A : Type 0} where
  -- f a, f (a + 1), .. : n of them
  unfoldable pub tabulate_from : (ℕ → A) → ℕ → ℕ → List A
  tabulate_from f a zero = []
  tabulate_from f a (suc n) = f a ∷ tabulate_from f (suc a) n

  -- f 0, .., f (n - 1)
  abbrev pub tabulate : (ℕ → A) → ℕ → List A
  tabulate f n = tabulate_from f 0 n

  -- the list l with f j joined to each element j; d stands for no element
  unfoldable pub joined : (A → A → A) → A → List A → (ℕ → A) → List A
  joined op d l f = tabulate (λ j. op (get_or l j d) (f j)) (length l)

  -- the k elements from a on, and the list with others in their place: the shapes that a part `&mut l[a..e]` leaves
  abbrev pub section : ℕ → ℕ → List A → List A
  section a k l = take k (drop a l)

  abbrev pub splice : ℕ → ℕ → List A → List A → List A
  splice a k l part = take a l ++ (part ++ drop k (drop a l))
