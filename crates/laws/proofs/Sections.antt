-- A section of a list, and the list with another in its place, as the borrow checker leaves a part `&mut l[a..e]` at e - a = k.
use Prim.Native.Nat.{ℕ, zero, suc, ◌+◌, ◌≤◌, ◌<◌}
use mathlib.Core.List.{List, [], ◌∷◌, ◌++◌, append_assoc, append-nil}
use mathlib.Core.Logic.{⊎_elim}
use mathlib.Core.Path.{◌≡◌, refl, sym, ap, ◌∙◌}
use native.Mathlib.Omega.{arith}
use borrow.Rule.Slice.PartMut.{set_mid_at, same_len_mid, put_same}
use lib.ListN.{length, get_or, set, take, drop, take-append-drop, length-append, length-take, length-drop, drop_of_length-le, get_or-append, get_or-eq_default}
use lib.Seq.{get_or-take, get_or-drop, take-take, take-add, drop-drop, get_or-append-add, length-take-le, take_at, drop_at}
use Rattle.laws.specs.Lists.{tabulate_from, tabulate, section, splice}
use Rattle.laws.proofs.Lists.{tabulate-length, tabulate-at, tabulate_from-is}
use Rattle.laws.proofs.Tests.{lt-or-ge}

module _ {A : Type 0} where
  -- ---- a section

  pub length-section : (a k : ℕ) (l : List A) → a + k ≤ length l → length (section a k l) ≡ k
  length-section a k l h = simp (length-take, length-drop) (omega arith)

  pub section-at : (a k : ℕ) (l : List A) (j : ℕ) (d : A) → j < k → get_or (section a k l) j d ≡ get_or l (a + j) d
  section-at a k l j d h = get_or-take k (drop a l) j d h ∙ get_or-drop a l j d

  -- an element at its place of the whole
  pub section-place : (a k : ℕ) (l : List A) (j place : ℕ) (d : A) → j < k → place ≡ a + j → get_or l place d ≡ get_or (section a k l) j d
  section-place a k l j place d h e = ap (λ (m : ℕ). get_or l m d) e ∙ sym (section-at a k l j d h)

  -- what holds of every element, and of what stands past the end, holds of a section's
  pub section-all : (P : A → Type 0) (d : A) (l : List A) → P d → ((j : ℕ) → P (get_or l j d)) → (a k j : ℕ) → P (get_or (section a k l) j d)
  section-all P d l none h a k j =
      ⊎_elim (λ (o : j < k). rw (section-at a k l j d o) (h (a + j)))
      (λ (o : k ≤ j). rw (get_or-eq_default (section a k l) d {n = j} (simp (length-take, length-drop) (omega arith))) none)
      (lt-or-ge j k)

  inner : (b k j : ℕ) (r : List A) → b + j ≤ k → take j (drop b (take k r)) ≡ take j (drop b r)
  inner zero k j r h = take-take j k r (omega arith)
  inner (suc b) zero j r h = absurd (omega arith)
  inner (suc b) (suc k) j [] h = refl
  inner (suc b) (suc k) j (x ∷ r) h = inner b k j r (omega arith)

  pub section-section : (a k b j : ℕ) (l : List A) → b + j ≤ k → section b j (section a k l) ≡ section (a + b) j l
  section-section a k b j l h = inner b k j (drop a l) h ∙ ap (λ (r : List A). take j r) (drop-drop b a l)

  pub section-tabulate : (f : ℕ → A) (n a k : ℕ) → a + k ≤ n → section a k (tabulate f n) ≡ tabulate_from f a k
  section-tabulate f n a k h =
      tabulate_from-is (f 0) (section a k (tabulate f n)) f a k (length-section a k (tabulate f n) (omega (arith, tabulate-length f n)))
      (λ j o. section-at a k (tabulate f n) j (f 0) o ∙ tabulate-at f n (a + j) (f 0) (omega arith))

  -- ---- another in its place

  pub length-splice : (a k : ℕ) (l part : List A) → length part ≡ length (section a k l) → length (splice a k l part) ≡ length l
  length-splice a k l part e = same_len_mid a k l part e

  pub splice-same : (a k : ℕ) (l : List A) → splice a k l (section a k l) ≡ l
  splice-same a k l = put_same a k l

  -- a store in the section is a store in the whole
  pub splice-set : (a k : ℕ) (l : List A) (j : ℕ) (v : A) → j < k → a + k ≤ length l
      → splice a k l (set (section a k l) j v) ≡ set l (a + j) v
  splice-set a k l j v h w = set_mid_at a k j l v (omega (arith, length-section a k l w))

  rest : (n k : ℕ) (r : List A) → n ≤ k → drop n (take k r) ++ drop k r ≡ drop n r
  rest zero k r h = take-append-drop k r
  rest (suc n) zero r h = absurd (omega arith)
  rest (suc n) (suc k) [] h = refl
  rest (suc n) (suc k) (x ∷ r) h = rest n k r (omega arith)

  -- what is replaced within a section is replaced within the whole
  pub splice-splice : (a k b j : ℕ) (l part : List A) → b + j ≤ k → splice a k l (splice b j (section a k l) part) ≡ splice (a + b) j l part
  splice-splice a k b j l part h =
      let y = drop a l in
      let after : drop j (drop b (take k y)) ++ drop k y ≡ drop j (drop b y) =
      rw (drop-drop j b (take k y), drop-drop j b y) (rest (b + j) k y h) in
      let front : take b (take k y) ≡ take b y = take-take b k y (omega arith) in
      rw (
        append_assoc (take b (take k y)) (part ++ drop j (drop b (take k y))) (drop k y),
        append_assoc part (drop j (drop b (take k y))) (drop k y),
        after,
        front,
        ← append_assoc (take a l) (take b y) (part ++ drop j (drop b y)),
        ← take-add a b l,
        drop-drop b a l,
      )

  -- ---- what is read of the whole afterwards: before the section, in it, after it

  pub splice-before : (a k : ℕ) (l part : List A) (i : ℕ) (d : A) → i < a → a ≤ length l → get_or (splice a k l part) i d ≡ get_or l i d
  splice-before a k l part i d h w =
      get_or-append (take a l) (part ++ drop k (drop a l)) d i (omega (arith, length-take-le a l w)) ∙ get_or-take a l i d h

  past : (a k : ℕ) (l part : List A) (j : ℕ) (d : A) → a ≤ length l
      → get_or (splice a k l part) (a + j) d ≡ get_or (part ++ drop k (drop a l)) j d
  past a k l part j d w =
      ap (λ (n : ℕ). get_or (splice a k l part) (n + j) d) (sym (length-take-le a l w))
      ∙ get_or-append-add (take a l) (part ++ drop k (drop a l)) j d

  pub splice-in : (a k : ℕ) (l part : List A) (j : ℕ) (d : A) → j < length part → a ≤ length l
      → get_or (splice a k l part) (a + j) d ≡ get_or part j d
  splice-in a k l part j d h w = past a k l part j d w ∙ get_or-append part (drop k (drop a l)) d j h

  pub splice-after : (a k : ℕ) (l part : List A) (j : ℕ) (d : A) → length part ≡ k → a ≤ length l
      → get_or (splice a k l part) (a + (k + j)) d ≡ get_or l (a + (k + j)) d
  splice-after a k l part j d e w =
      past a k l part (k + j) d w
      ∙ ap (λ (n : ℕ). get_or (part ++ drop k (drop a l)) (n + j) d) (sym e)
      ∙ get_or-append-add part (drop k (drop a l)) j d
      ∙ get_or-drop k (drop a l) j d
      ∙ get_or-drop a l (k + j) d

  -- ---- three sections of a room that follow one another and leave nothing of it

  pub splice-three : (room xs ys zs : List A) (a b c : ℕ) → length room ≡ a + b + c → length xs ≡ a → length ys ≡ b
      → splice (a + b) c (splice a b (xs ++ drop a room) ys) zs ≡ xs ++ ys ++ zs
  splice-three room xs ys zs a b c r e f =
      let rest = drop b (drop a room) in
      let two : splice a b (xs ++ drop a room) ys ≡ (xs ++ ys) ++ rest =
      rw (take_at xs (drop a room) a e, drop_at xs (drop a room) a e) (sym (append_assoc xs ys rest)) in
      let long : length (xs ++ ys) ≡ a + b = omega (arith, length-append xs ys) in
      let none : drop c rest ≡ [] = drop_of_length-le rest {i = c} (omega (arith, length-drop b (drop a room), length-drop a room)) in
      rw (two, take_at (xs ++ ys) rest (a + b) long, drop_at (xs ++ ys) rest (a + b) long, none, append-nil zs)
