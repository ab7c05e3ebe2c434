-- A room that a loop fills from the front: by a rule of the index, element by element, part by part or row by row;
-- by a list; with one value.
use Prim.Native.Nat.{ℕ, suc, ◌+◌, ◌*◌, ◌-◌, ◌/◌, ◌%◌, ◌≤◌, ◌<◌}
use mathlib.Core.List.{List, [], ◌∷◌, ◌++◌, append_assoc, append-nil}
use mathlib.Core.Logic.{⊎_elim}
use mathlib.Core.Path.{◌≡◌, refl, sym, ap, ap₂, ◌∙◌}
use native.Mathlib.Decide.{ℕ_discrete}
use native.Mathlib.Nat.{mul_comm}
use native.Mathlib.Numerals.{add-one}
use native.Mathlib.Omega.{arith}
use lib.Arith.{digits_div, digits_mod}
use lib.ListN.{length, get_or, set, take, drop, replicate, length-replicate, replicate-append-replicate, drop_of_length-le}
use lib.Seq.{get_or-set_same, get_or-set_other, take-suc, take_all, drop-cons, length-take-le, set_at, ext_get_or}
use Rattle.laws.specs.Lists.{tabulate, tabulate_from, splice}
use Rattle.laws.proofs.Tests.{lt-or-ge}
use Rattle.laws.proofs.Lists.{tabulate-length, tabulate-at, tabulate-is, tabulate-from}
use Rattle.laws.proofs.Sections.{length-section, length-splice, splice-before, splice-in}

module _ {A : Type 0} (d : A) where
  -- ---- by a rule: the first n elements are the rule's
  abbrev pub Filled : ℕ → (ℕ → A) → List A → Type 0
  Filled n f l = (j : ℕ) → j < n → get_or l j d ≡ f j

  pub filled_none : (f : ℕ → A) (l : List A) → Filled 0 f l
  filled_none f l j h = absurd (omega arith)

  -- one more, by a store
  pub filled_next : (f : ℕ → A) (l : List A) (k : ℕ) (v : A) → Filled k f l → v ≡ f k → k < length l → Filled (k + 1) f (set l k v)
  filled_next f l k v h e w j o = by (ℕ_discrete j k)
    where
      by : Dec (j ≡ k) → get_or (set l k v) j d ≡ f j
      by (yes same) = rw same (get_or-set_same l k v d w ∙ e)
      by (no other) = get_or-set_other l k j v d other ∙ h j (omega arith)

  -- k more, by a part lent on
  pub filled-part : (f : ℕ → A) (l part : List A) (a k : ℕ) → Filled a f l → ((j : ℕ) → j < k → get_or part j d ≡ f (a + j)) → length part ≡ k
      → a + k ≤ length l → Filled (a + k) f (splice a k l part)
  filled-part f l part a k h inside e w j o = ⊎_elim before within (lt-or-ge j a)
    where
      before : j < a → get_or (splice a k l part) j d ≡ f j
      before b = splice-before a k l part j d b (omega arith) ∙ h j b

      within : a ≤ j → get_or (splice a k l part) j d ≡ f j
      within b =
          let same : a + (j - a) ≡ j = omega arith in
          ap (λ (n : ℕ). get_or (splice a k l part) n d) (sym same)
          ∙ splice-in a k l part (j - a) d (omega arith) (omega arith)
          ∙ inside (j - a) (omega arith)
          ∙ ap f same

  -- all: by the rule, by the rule counted from a on, and by another list
  pub filled-all : (f : ℕ → A) (l : List A) (n : ℕ) → length l ≡ n → Filled n f l → l ≡ tabulate f n
  filled-all f l n e h = tabulate-is d l f n e h

  pub filled-from : (f : ℕ → A) (a : ℕ) (l : List A) (n : ℕ) → length l ≡ n → Filled n (λ j. f (j + a)) l → l ≡ tabulate_from f a n
  filled-from f a l n e h = filled-all (λ j. f (j + a)) l n e h ∙ tabulate-from f a n

  pub filled_copy : (xs l : List A) (n : ℕ) → length xs ≡ n → length l ≡ n → Filled n (λ j. get_or xs j d) l → l ≡ xs
  filled_copy xs l n e g h = ext_get_or d l xs (g ∙ sym e) (λ j o. h j (omega arith))

-- ---- row by row, in a room of n: rows of w, and f i k stands at w i + k

module _ {A : Type 0} (d : A) (f : ℕ → ℕ → A) (w n : ℕ) where
  abbrev pub by_row : ℕ → A
  by_row j = f (j / w) (j % w)

  -- the first i rows are in
  pub record Rows (i : ℕ) (l : List A) : Type 0 where
    pub long : length l ≡ n
    pub filled : Filled d (w * i) by_row l

  pub rows_none : (l : List A) → length l ≡ n → Rows 0 l
  rows_none l e = record { long = e; filled = λ j o. absurd (omega arith) }

  pub rows_next : (i : ℕ) (l part : List A) → w * i + w ≤ n → part ≡ tabulate (f i) w → Rows i l → Rows (i + 1) (splice (w * i) w l part)
  rows_next i l part h e r =
      let more : w * (i + 1) ≡ w * i + w = omega arith in
      let sized : length part ≡ w = ap length e ∙ tabulate-length (f i) w in
      let room : w * i + w ≤ length l = omega (arith, r.long) in
      record {
        long = length-splice (w * i) w l part (sized ∙ sym (length-section (w * i) w l room)) ∙ r.long;
        filled = rw more (filled-part d by_row l part (w * i) w r.filled (λ k o. ap (λ (m : List A). get_or m k d) e ∙ tabulate-at (f i) w k d o ∙ sym (here k o)) sized room);
      }
    where
      here : (k : ℕ) → k < w → by_row (w * i + k) ≡ f i k
      here k o = rw (mul_comm w i) (ap₂ f (digits_div i o) (digits_mod i o))

  pub rows_all : (i : ℕ) (l : List A) → w * i ≡ n → Rows i l → l ≡ tabulate by_row n
  rows_all i l e r = filled-all d by_row l n r.long (λ j o. r.filled j (omega arith))

module _ {A : Type 0} where
  -- ---- the room as a whole: what was put in, and then what stood there
  put_next : (p room : List A) (k : ℕ) (v : A) → length p ≡ k → k < length room → set (p ++ drop k room) k v ≡ (p ++ (v ∷ [])) ++ drop (suc k) room
  put_next p room k v e l =
      ap (λ (t : List A). set (p ++ t) k v) (drop-cons room k v l) ∙ set_at p (get_or room k v) (drop (suc k) room) v k e ∙ simp append_assoc

  put_all : (p room : List A) (n : ℕ) → length room ≡ n → p ++ drop n room ≡ p
  put_all p room n e = rw (drop_of_length-le room {i = n} (omega arith)) (append-nil p)

  -- by a list
  pub fill_more : (xs room : List A) (k : ℕ) (d : A) → k < length xs → k < length room
      → set (take k xs ++ drop k room) k (get_or xs k d) ≡ take (suc k) xs ++ drop (suc k) room
  fill_more xs room k d l m =
      put_next (take k xs) room k (get_or xs k d) (length-take-le k xs (omega arith)) m
      ∙ sym (ap (λ (t : List A). t ++ drop (suc k) room) (take-suc xs k d l))

  pub fill-all : {n : ℕ} (xs room : List A) → length xs ≡ n → length room ≡ n → take n xs ++ drop n room ≡ xs
  fill-all {n} xs room e f = rw (take_all n xs (omega arith)) (put_all xs room n f)

  -- with one value
  pub fill-value-more : (n : ℕ) (v : A) (l : List A) → n < length l → set (replicate n v ++ drop n l) n v ≡ replicate (n + 1) v ++ drop (n + 1) l
  fill-value-more n v l h = put_next (replicate n v) l n v (length-replicate n v) h ∙ rw (replicate-append-replicate n 1 v, add-one n)

  pub fill-value-all : (n : ℕ) (v : A) (l : List A) → n ≡ length l → replicate n v ++ drop n l ≡ replicate (length l) v
  fill-value-all n v l e = rw e (put_all (replicate (length l) v) l (length l) refl)

  -- a room of three, and of four, by so many stores
  pub three-stored : (room : List A) (a b c : A) → length room ≡ 3 → set (set (set room 0 a) 1 b) 2 c ≡ a ∷ b ∷ c ∷ []
  three-stored [] a b c e = absurd (omega arith)
  three-stored (x ∷ []) a b c e = absurd (omega arith)
  three-stored (x ∷ y ∷ []) a b c e = absurd (omega arith)
  three-stored (x ∷ y ∷ z ∷ []) a b c e = refl
  three-stored (x ∷ y ∷ z ∷ v ∷ room) a b c e = absurd (omega arith)

  pub four-stored : (room : List A) (a b c d : A) → length room ≡ 4 → set (set (set (set room 0 a) 1 b) 2 c) 3 d ≡ a ∷ b ∷ c ∷ d ∷ []
  four-stored [] a b c d e = absurd (omega arith)
  four-stored (w ∷ []) a b c d e = absurd (omega arith)
  four-stored (w ∷ x ∷ []) a b c d e = absurd (omega arith)
  four-stored (w ∷ x ∷ y ∷ []) a b c d e = absurd (omega arith)
  four-stored (w ∷ x ∷ y ∷ z ∷ []) a b c d e = refl
  four-stored (w ∷ x ∷ y ∷ z ∷ v ∷ room) a b c d e = absurd (omega arith)
