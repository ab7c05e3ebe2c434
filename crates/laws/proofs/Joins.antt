-- A list with something joined to each element by an operation: an array of sums takes in what one summand more adds.
use Prim.Native.Nat.{ℕ, ◌+◌, ◌-◌, ◌≤◌, ◌<◌}
use mathlib.Core.Bool.{◌&&◌}
use mathlib.Core.List.{List}
use mathlib.Core.Logic.{◌⊎◌, inl, inr, ◌≢◌}
use mathlib.Core.Path.{◌≡◌, refl, sym, ap, ◌∙◌}
use native.Mathlib.Decide.{ℕ_discrete}
use native.Mathlib.Omega.{arith}
use borrow.Author.Tests.{lt-ltb, le-ltb, le-leb, lt-leb}
use lib.ListN.{length, get_or, set, length-set}
use lib.Seq.{get_or-set_same, get_or-set_other}
use Rattle.laws.specs.Lists.{tabulate, joined, section, splice}
use Rattle.std.specs.Prelude.{if◌then◌else◌}
use Rattle.laws.specs.Tests.{◌up_to◌, ◌below◌}
use Rattle.laws.proofs.Lists.{tabulate-length, tabulate-at, tabulate-is, tabulate-ext}
use Rattle.laws.proofs.Sections.{length-section, length-splice, section-at, splice-before, splice-in, splice-after}
use Rattle.laws.proofs.Tests.{lt-or-ge}

module _ {A : Type 0} (op : A → A → A) (d : A) where
  pub joined_length : (l : List A) (f : ℕ → A) → length (joined op d l f) ≡ length l
  unfolding joined
  joined_length l f = tabulate-length _ _

  pub joined_at : (l : List A) (f : ℕ → A) (j : ℕ) → j < length l → get_or (joined op d l f) j d ≡ op (get_or l j d) (f j)
  unfolding joined
  joined_at l f j h = tabulate-at (λ i. op (get_or l i d) (f i)) (length l) j d h

  pub joined_is : (l m : List A) (f : ℕ → A) → length m ≡ length l → ((j : ℕ) → j < length l → get_or m j d ≡ op (get_or l j d) (f j))
      → m ≡ joined op d l f
  unfolding joined
  joined_is l m f e h = tabulate-is d m (λ j. op (get_or l j d) (f j)) (length l) e h

  pub joined-ext : (l : List A) (f g : ℕ → A) → ((j : ℕ) → j < length l → f j ≡ g j) → joined op d l f ≡ joined op d l g
  unfolding joined
  joined-ext l f g h = tabulate-ext _ _ (length l) (λ j o. ap (λ (x : A). op (get_or l j d) x) (h j o))

  -- of a list by a rule it is one by a rule again: the law of one summand more
  pub joined-tabulate : (g f : ℕ → A) (n : ℕ) → joined op d (tabulate g n) f ≡ tabulate (λ j. op (g j) (f j)) n
  unfolding joined
  joined-tabulate g f n = rw (tabulate-length g n) (tabulate-ext _ _ n (λ j o. ap (λ (x : A). op x (f j)) (tabulate-at g n j d o)))

  pub joined-twice : ((x y z : A) → op (op x y) z ≡ op x (op y z)) → (l : List A) (f g : ℕ → A)
      → joined op d (joined op d l f) g ≡ joined op d l (λ j. op (f j) (g j))
  joined-twice assoc l f g =
      joined_is l (joined op d (joined op d l f) g) (λ j. op (f j) (g j)) (joined_length (joined op d l f) g ∙ joined_length l f)
      (λ j o.
      joined_at (joined op d l f) g j (omega (arith, joined_length l f))
      ∙ ap (λ (x : A). op x (g j)) (joined_at l f j o)
      ∙ assoc (get_or l j d) (f j) (g j))

  module _ (idr : (x : A) → op x d ≡ x) where
    pub joined-none : (l : List A) (f : ℕ → A) → ((j : ℕ) → j < length l → f j ≡ d) → joined op d l f ≡ l
    joined-none l f h = sym (joined_is l l f refl (λ j o. sym (ap (λ (x : A). op (get_or l j d) x) (h j o) ∙ idr (get_or l j d))))

    -- one more place joined, by a store
    pub joined-set : (l : List A) (f g : ℕ → A) (k : ℕ) (v : A) → k < length l → f k ≡ d → g k ≡ v → ((j : ℕ) → j ≢ k → f j ≡ g j)
        → set (joined op d l f) k (op (get_or (joined op d l f) k d) v) ≡ joined op d l g
    joined-set l f g k v h none more same =
        joined_is l (set (joined op d l f) k w) g (length-set (joined op d l f) k w ∙ joined_length l f) (λ j o. at j o (ℕ_discrete j k))
      where
        w : A
        w = op (get_or (joined op d l f) k d) v

        old : get_or (joined op d l f) k d ≡ get_or l k d
        old = joined_at l f k h ∙ ap (λ (x : A). op (get_or l k d) x) none ∙ idr (get_or l k d)

        at : (j : ℕ) → j < length l → Dec (j ≡ k) → get_or (set (joined op d l f) k w) j d ≡ op (get_or l j d) (g j)
        at j o (yes e) =
            rw e
            (get_or-set_same (joined op d l f) k w d (omega (arith, joined_length l f))
            ∙ ap (λ (x : A). op x v) old
            ∙ ap (λ (x : A). op (get_or l k d) x) (sym more))
        at j o (no n) =
            get_or-set_other (joined op d l f) k j w d n ∙ joined_at l f j o ∙ ap (λ (x : A). op (get_or l j d) x) (same j n)

    -- joined in a section is joined in the whole, at the section's places
    pub joined-section : (a k : ℕ) (l : List A) (f : ℕ → A) → a + k ≤ length l
        → splice a k l (joined op d (section a k l) f) ≡ joined op d l (λ j. if a up_to j && j below a + k then f (j - a) else d)
    joined-section a k l f w =
        joined_is l (splice a k l part) (λ j. if a up_to j && j below a + k then f (j - a) else d)
        (length-splice a k l part (joined_length (section a k l) f))
        (λ j o. at j o (lt-or-ge j a) (lt-or-ge j (a + k)))
      where
        part : List A
        part = joined op d (section a k l) f

        long : length part ≡ k
        long = joined_length (section a k l) f ∙ length-section a k l w

        at : (j : ℕ) → j < length l → (j < a) ⊎ (a ≤ j) → (j < a + k) ⊎ (a + k ≤ j)
            → get_or (splice a k l part) j d ≡ op (get_or l j d) (if a up_to j && j below a + k then f (j - a) else d)
        at j o (inl h) _ = rw (lt-leb a j h) (splice-before a k l part j d h (omega arith) ∙ sym (idr (get_or l j d)))
        at j o (inr h) (inl g) =
            let e : a + (j - a) ≡ j = omega arith in
            let i : j - a < k = omega arith in
            rw (le-leb a j h, lt-ltb j (a + k) g)
            (ap (λ (n : ℕ). get_or (splice a k l part) n d) (sym e)
            ∙ splice-in a k l part (j - a) d (omega (arith, long)) (omega arith)
            ∙ joined_at (section a k l) f (j - a) (omega (arith, length-section a k l w))
            ∙ ap (λ (x : A). op x (f (j - a))) (section-at a k l (j - a) d i ∙ ap (λ (n : ℕ). get_or l n d) e))
        at j o (inr h) (inr g) =
            let e : a + (k + (j - (a + k))) ≡ j = omega arith in
            rw (le-leb a j h, le-ltb j (a + k) g)
            (ap (λ (n : ℕ). get_or (splice a k l part) n d) (sym e)
            ∙ splice-after a k l part (j - (a + k)) d long (omega arith)
            ∙ ap (λ (n : ℕ). get_or l n d) e
            ∙ sym (idr (get_or l j d)))
