-- 14's test of one currency's sums, and what it lets in.
use Prim.Native.Nat.{ℕ, ◌+◌, ◌≤◌, ◌<◌}
use mathlib.Core.Bool.{Bool, true, false, not}
use mathlib.Core.List.{List}
use mathlib.Core.Path.{◌≡◌, refl, sym, ap, ap₂, ◌∙◌}
use native.Mathlib.Omega.{arith}
use lib.IntN.{ℤ, pos, ◌+ℤ◌}
use lib.ListN.{length, get_or, replicate, get_or-replicate}
use borrow.Author.Tests.{lt-ltb, le-ltb, ltb-false, not-true}
use Rattle.std.proofs.lemmas.List.{get_or_default}
use Rattle.std.proofs.lemmas.Slice.Zip.{length-zip, get_or-zip}
use Rattle.std.specs.Bool.{MatchBool}
use Rattle.std.specs.List.{zip, AllWithin, HoldsAt}
use Rattle.std.specs.Prelude.{Ok, Err}
use Rattle.laws.specs.Tests.{◌below◌}
use Rattle.laws.proofs.Joins.{joined-ext}
use Rattle.laws.proofs.Tests.{all_of, all-at, all-not, all-ext}
use Rattle.paper.specs.declared.Fault.{Fault}
use Rattle.paper.specs.Scales.{billion}
use Rattle.paper.specs.Flow.{scenarios, sided}
use Rattle.arrays.specs.Slots.{plus, plus_ℤ, room_for, only_if}
use Rattle.posting.specs.Parts.{AtMost, trillion, Taken, answer_of, Admitted, Entered}

module _ (sums : List ℕ) (n : ℕ) where
  pub room_of : (more : ℕ → ℕ) → ((j : ℕ) → j < n → get_or sums j 0 + more j ≤ billion) → room_for more sums n ≡ true
  unfolding room_for
  room_of more h = all_of _ 0 n (λ j _ l. ap not (le-ltb billion (get_or sums j 0 + more j) (h j (omega arith))))

  pub room-not : (more : ℕ → ℕ) (j : ℕ) → j < n → billion < get_or sums j 0 + more j → room_for more sums n ≡ false
  unfolding room_for
  room-not more j l h =
      all-not (λ i. not (billion below get_or sums i 0 + more i)) 0 n j (omega arith) (omega arith) (ap not (lt-ltb billion (get_or sums j 0 + more j) h))

  pub room_at : (more : ℕ → ℕ) → room_for more sums n ≡ true → (j : ℕ) → j < n → get_or sums j 0 + more j ≤ billion
  unfolding room_for
  room_at more t j l =
      ltb-false billion (get_or sums j 0 + more j)
      (not-true _ (all-at (λ i. not (billion below get_or sums i 0 + more i)) 0 n t j (omega arith) (omega arith)))

  pub room-ext : (f g : ℕ → ℕ) → ((j : ℕ) → j < n → f j ≡ g j) → room_for f sums n ≡ room_for g sums n
  unfolding room_for
  room-ext f g h = all-ext _ _ 0 n (λ j _ l. ap (λ (x : ℕ). not (billion below get_or sums j 0 + x)) (h j (omega arith)))

-- ---- the sums beside what is added, as pairs

module _ (sums more : List ℕ) (long : length more ≡ length sums) where
  pair-at : (k : ℕ) (d : ℕ × ℕ) → k < length (zip sums more) → get_or (zip sums more) k d ≡ (get_or sums k 0, get_or more k 0)
  pair-at k d w =
      let in-sums : k < length sums = omega (arith, length-zip sums more) in
      let in-more : k < length more = omega arith in
      get_or-zip sums more k d in-sums in-more ∙ ap₂ (λ (a b : ℕ). (a, b)) (get_or_default sums k d.0 0 in-sums) (get_or_default more k d.1 0 in-more)

  -- a pair's sum fits
  pub pair-small : AtMost billion sums → AtMost trillion more → (p : ℕ × ℕ) (k : ℕ) → k < length (zip sums more) → p ≡ get_or (zip sums more) k p
      → p.0 + p.1 ≤ billion + trillion
  pair-small sums-small more-small p k w e =
      let same : p ≡ (get_or sums k 0, get_or more k 0) = e ∙ pair-at k p w in rw same (omega (arith, sums-small k, more-small k))

  -- the test of every pair is 14's
  pub room-by : (r : Bool) → MatchBool r (AllWithin (λ (p : ℕ × ℕ). p.0 + p.1 ≤ billion) (zip sums more) 0 (length (zip sums more)))
      ((k : ℕ) × (k < length (zip sums more)) × HoldsAt (λ (p : ℕ × ℕ). billion < p.0 + p.1) (zip sums more) k)
      → r ≡ room_for (λ j. get_or more j 0) sums (length sums)
  room-by true h = sym (room_of sums (length sums) (λ j. get_or more j 0) (λ j l.
      let inside : j < length (zip sums more) = omega (arith, length-zip sums more) in
      rw (pair-at j (0, 0) inside) at (h j (0, 0) (omega arith) inside)))
  room-by false h = sym (room-not sums (length sums) (λ j. get_or more j 0) h.0 (omega (arith, length-zip sums more, h.1)) (rw (pair-at h.0 (0, 0) h.1) at (h.2 (0, 0))))

-- ---- an answer tells how the test went
pub passed : (b : Bool) (answer : Taken) {u : Unit {0}} → answer ≡ answer_of b → answer ≡ Ok u → b ≡ true
passed true answer t e = refl
passed false answer t e = cc

pub failed : (b : Bool) (answer : Taken) {f : Fault} → answer ≡ answer_of b → answer ≡ Err f → b ≡ false
failed true answer t e = cc
failed false answer t e = refl

-- ---- sums tested with `more`, which is the record's own magnitudes one by one

module _ (own : ℕ → ℕ) (n : ℕ) {more sums sums' : List ℕ} {answer : Taken} (long : length sums ≡ n)
    (sized : (j : ℕ) → j < n → own j ≡ get_or more j 0) (test : Admitted more sums answer sums') where
  same-room : room_for own sums n ≡ room_for (λ j. get_or more j 0) sums (length sums)
  same-room = room-ext sums n own (λ j. get_or more j 0) sized ∙ ap (room_for (λ j. get_or more j 0) sums) (sym long)

  same-sums : plus sums (λ j. get_or more j 0) ≡ plus sums own
  same-sums = joined-ext ◌+◌ 0 sums (λ j. get_or more j 0) own (λ j l. sym (sized j (omega arith)))

  pub answer-is : answer ≡ answer_of (room_for own sums n)
  answer-is = test.answered ∙ ap answer_of (sym same-room)

  pub sums-are : sums' ≡ only_if (room_for own sums n) (plus sums own) sums
  sums-are = test.grown ∙ ap₂ (λ (b : Bool) (l : List ℕ). only_if b l sums) (sym same-room) same-sums

-- flows worked out beforehand, all of one side: written after the test, or left where it fails
module _ (amounts : ℕ → ℕ) (side : ℕ) (own : ℕ → ℕ) {more sizes sizes' : List ℕ} {section section' : List ℤ} {answer result : Taken}
    (long : length sizes ≡ scenarios) (sized : (i : ℕ) → i < scenarios → own i ≡ get_or more i 0) (test : Admitted more sizes answer sizes') where
  entered : (b : Bool) → room_for own sizes scenarios ≡ b → answer ≡ result → section' ≡ only_if b (plus_ℤ section (λ j. sided side (pos (amounts j)))) section
      → Entered amounts side own section sizes result section' sizes'
  entered b room same e = record { answered = sym same ∙ answer-is own scenarios long sized test; cells = e ∙ sym (rw room); sums = sums-are own scenarios long sized test }

  pub entered-done : {u : Unit {0}} → answer ≡ Ok u → result ≡ Ok u → section' ≡ plus_ℤ section (λ j. sided side (pos (amounts j)))
      → Entered amounts side own section sizes result section' sizes'
  entered-done t r e = entered true (passed _ answer (answer-is own scenarios long sized test) t) (t ∙ sym r) e

  pub entered-not : {f : Fault} → answer ≡ Err f → result ≡ Err f → section' ≡ section → Entered amounts side own section sizes result section' sizes'
  entered-not t r e = entered false (failed _ answer (answer-is own scenarios long sized test) t) (t ∙ sym r) e

-- flows and magnitudes that are the same number by number
pub entered-ext : (side : ℕ) (amounts amounts' more more' : ℕ → ℕ) {section section' : List ℤ} {sizes sizes' : List ℕ} {answer : Taken}
    → ((j : ℕ) → amounts j ≡ amounts' j) → ((i : ℕ) → more i ≡ more' i)
    → Entered amounts side more section sizes answer section' sizes' → Entered amounts' side more' section sizes answer section' sizes'
entered-ext side amounts amounts' more more' {section = section} {sizes = sizes} flows-are sizes-are h =
    let same : room_for more sizes scenarios ≡ room_for more' sizes scenarios = room-ext sizes scenarios more more' (λ i _. sizes-are i) in
    record {
      answered = h.answered ∙ ap answer_of same;
      cells = h.cells ∙ ap₂ (λ (b : Bool) (l : List ℤ). only_if b l section) same (joined-ext ◌+ℤ◌ (pos 0) section _ _ (λ j _. ap (λ (n : ℕ). sided side (pos n)) (flows-are j)));
      sums = h.sums ∙ ap₂ (λ (b : Bool) (l : List ℕ). only_if b l sizes) same (joined-ext ◌+◌ 0 sizes _ _ (λ i _. sizes-are i));
    }

-- one size in every scenario
pub same_size : (size i : ℕ) → i < scenarios → size ≡ get_or (replicate 7 size) i 0
same_size size i l = sym (get_or-replicate 7 i size 0 l)
