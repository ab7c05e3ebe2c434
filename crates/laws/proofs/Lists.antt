-- Lists given by a rule of the index: their length, their elements, when two are one, and a store into one. Tables of numbers, and their greatest.
use Prim.Native.Nat.{ℕ, zero, suc, zero-le, ◌+◌, ◌≤◌, ◌<◌}
use mathlib.Core.Bool.{true}
use mathlib.Core.List.{List, ◌∷◌, ◌++◌}
use mathlib.Core.Logic.{◌≢◌, ⊎_elim}
use mathlib.Core.Path.{◌≡◌, refl, sym, ap, ap₂, ◌∙◌}
use native.Mathlib.Decide.{ℕ_discrete}
use native.Mathlib.Nat.{add-zero, zero-add, add_comm}
use native.Mathlib.Omega.{arith}
use lib.ListN.{length, get_or, set, replicate, length-set, get_or-eq_default}
use lib.Seq.{ext_get_or, get_or-set_same, get_or-set_other}
use borrow.Author.Tests.{leb-true}
use Rattle.laws.specs.Tests.{◌up_to◌, all}
use Rattle.laws.specs.Lists.{tabulate_from, tabulate}
use Rattle.laws.proofs.Tests.{lt-or-ge, all-at}

module _ {A : Type 0} where
  -- ---- from a on

  pub tabulate_from-length : (f : ℕ → A) (a n : ℕ) → length (tabulate_from f a n) ≡ n
  unfolding tabulate_from
  tabulate_from-length f a zero = refl
  tabulate_from-length f a (suc n) = ap suc (tabulate_from-length f (suc a) n)

  pub tabulate_from-at : (f : ℕ → A) (a n k : ℕ) (d : A) → k < n → get_or (tabulate_from f a n) k d ≡ f (a + k)
  unfolding tabulate_from
  tabulate_from-at f a zero k d h = absurd (omega arith)
  tabulate_from-at f a (suc n) zero d h = ap f (sym (add-zero a))
  tabulate_from-at f a (suc n) (suc k) d h = tabulate_from-at f (suc a) n k d (omega arith) ∙ ap f (omega arith)

  pub tabulate_from-past : (f : ℕ → A) (a n k : ℕ) (d : A) → n ≤ k → get_or (tabulate_from f a n) k d ≡ d
  tabulate_from-past f a n k d h = get_or-eq_default (tabulate_from f a n) d (omega (arith, tabulate_from-length f a n))

  -- a list of that length with those elements is the rule's
  pub tabulate_from-is : (d : A) (l : List A) (f : ℕ → A) (a n : ℕ) → length l ≡ n → ((k : ℕ) → k < n → get_or l k d ≡ f (a + k))
      → l ≡ tabulate_from f a n
  tabulate_from-is d l f a n e h =
      ext_get_or d l (tabulate_from f a n) (e ∙ sym (tabulate_from-length f a n))
      (λ k o. let m : k < n = omega arith in h k m ∙ sym (tabulate_from-at f a n k d m))

  pub tabulate_from-ext : (f g : ℕ → A) (a n : ℕ) → ((k : ℕ) → a ≤ k → k < a + n → f k ≡ g k) → tabulate_from f a n ≡ tabulate_from g a n
  unfolding tabulate_from
  tabulate_from-ext f g a zero h = refl
  tabulate_from-ext f g a (suc n) h =
      ap₂ ◌∷◌ (h a (omega arith) (omega arith)) (tabulate_from-ext f g (suc a) n (λ k l m. h k (omega arith) (omega arith)))

  pub tabulate_from-const : (v : A) (a n : ℕ) → tabulate_from (λ j. v) a n ≡ replicate n v
  unfolding tabulate_from
  tabulate_from-const v a zero = refl
  tabulate_from-const v a (suc n) = ap (λ (l : List A). v ∷ l) (tabulate_from-const v (suc a) n)

  -- in two parts
  pub tabulate_from-parts : (f : ℕ → A) (a n d : ℕ) → tabulate_from f a (n + d) ≡ tabulate_from f a n ++ tabulate_from f (a + n) d
  unfolding tabulate_from
  tabulate_from-parts f a zero d = ap₂ (tabulate_from f) (sym (add-zero a)) (zero-add d)
  tabulate_from-parts f a (suc n) d =
      let more : suc n + d ≡ suc (n + d) = omega arith in
      let place : suc a + n ≡ a + suc n = omega arith in
      rw more (ap (λ (l : List A). f a ∷ l) (tabulate_from-parts f (suc a) n d ∙ ap (λ (b : ℕ). tabulate_from f (suc a) n ++ tabulate_from f b d) place))

  -- ---- from 0 on

  pub tabulate-length : (f : ℕ → A) (n : ℕ) → length (tabulate f n) ≡ n
  tabulate-length f n = tabulate_from-length f 0 n

  pub tabulate-at : (f : ℕ → A) (n k : ℕ) (d : A) → k < n → get_or (tabulate f n) k d ≡ f k
  tabulate-at f n k d h = tabulate_from-at f 0 n k d h ∙ ap f (zero-add k)

  pub tabulate-past : (f : ℕ → A) (n k : ℕ) (d : A) → n ≤ k → get_or (tabulate f n) k d ≡ d
  tabulate-past f n k d h = tabulate_from-past f 0 n k d h

  pub tabulate-is : (d : A) (l : List A) (f : ℕ → A) (n : ℕ) → length l ≡ n → ((k : ℕ) → k < n → get_or l k d ≡ f k) → l ≡ tabulate f n
  tabulate-is d l f n e h = tabulate_from-is d l f 0 n e (λ k m. h k m ∙ ap f (sym (zero-add k)))

  pub tabulate-ext : (f g : ℕ → A) (n : ℕ) → ((k : ℕ) → k < n → f k ≡ g k) → tabulate f n ≡ tabulate g n
  tabulate-ext f g n h = tabulate_from-ext f g 0 n (λ k l m. h k (omega arith))

  pub tabulate-const : (v : A) (n : ℕ) → tabulate (λ j. v) n ≡ replicate n v
  tabulate-const v n = tabulate_from-const v 0 n

  -- counted from a on
  pub tabulate-from : (f : ℕ → A) (a n : ℕ) → tabulate (λ j. f (j + a)) n ≡ tabulate_from f a n
  tabulate-from f a n =
      tabulate_from-is (f a) (tabulate (λ j. f (j + a)) n) f a n (tabulate-length (λ j. f (j + a)) n)
      (λ k o. tabulate-at (λ j. f (j + a)) n k (f a) o ∙ ap f (add_comm k a))

  -- one place changed, by a store
  pub tabulate-set : (d : A) (f g : ℕ → A) (n k : ℕ) (v : A) → k < n → g k ≡ v → ((j : ℕ) → j ≢ k → f j ≡ g j)
      → set (tabulate f n) k v ≡ tabulate g n
  tabulate-set d f g n k v h here same =
      tabulate-is d (set (tabulate f n) k v) g n (length-set (tabulate f n) k v ∙ tabulate-length f n) (λ j l. at j l (ℕ_discrete j k))
    where
      at : (j : ℕ) → j < n → Dec (j ≡ k) → get_or (set (tabulate f n) k v) j d ≡ g j
      at j l (yes e) = rw e (get_or-set_same (tabulate f n) k v d (omega (arith, tabulate-length f n)) ∙ sym here)
      at j l (no m) = get_or-set_other (tabulate f n) k j v d m ∙ tabulate-at f n j d l ∙ same j m

-- ---- a table whose numbers a computed test finds to be at most so much: past its end there is none

pub table-most : (table : List ℕ) (most : ℕ) → all (λ j. get_or table j 0 up_to most) 0 (length table) ≡ true → (k : ℕ) → get_or table k 0 ≤ most
table-most table most tested k =
    ⊎_elim (λ (h : k < length table). leb-true _ _ (all-at (λ j. get_or table j 0 up_to most) 0 (length table) tested k zero-le (omega arith)))
    (λ (h : length table ≤ k). rw (get_or-eq_default table 0 {n = k} h) zero-le) (lt-or-ge k (length table))
