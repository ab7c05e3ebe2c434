-- Rows that are filled column by column, and a number that is kept for each row: k columns are passed, and of the next the first i rows.
use Prim.Native.Nat.{ℕ, suc, ◌+◌, ◌*◌, ◌/◌, ◌%◌, ◌≤◌, ◌<◌}
use mathlib.Core.List.{List}
use mathlib.Core.Logic.{⊎_elim}
use mathlib.Core.Path.{◌≡◌, sym, ap, ◌∙◌}
use native.Mathlib.Decide.{ℕ_discrete}
use native.Mathlib.Omega.{arith}
use lib.ListN.{length, get_or, set, replicate, length-set, length-replicate, get_or-replicate}
use lib.Seq.{get_or-set_same, get_or-set_other}
use borrow.Author.Tests.{lt-ltb, le-ltb}
use Rattle.std.specs.Prelude.{if◌then◌else◌}
use Rattle.laws.specs.Tests.{◌below◌}
use Rattle.laws.specs.Lists.{tabulate}
use Rattle.laws.proofs.Lists.{tabulate-is}
use Rattle.laws.proofs.Tests.{lt-or-ge}
use Rattle.posting.specs.Parts.{AtMost}
use Rattle.posting.proofs.Loops.{row_small}
use Rattle.behaviour.specs.Columns.{Columns, Kept}

unfoldable pub passed : ℕ → ℕ → ℕ → ℕ
passed k i r = if r below i then suc k else k

pub passed_here : (k i : ℕ) → passed k i i ≡ k
unfolding passed
passed_here k i = rw (le-ltb i i (omega arith))

pub passed-more : (k i : ℕ) → passed k (i + 1) i ≡ suc k
unfolding passed
passed-more k i = let here : i < i + 1 = omega arith in rw (lt-ltb i (i + 1) here)

pub passed_none : (k r : ℕ) → passed k 0 r ≡ k
unfolding passed
passed_none k r = rw (le-ltb r 0 (omega arith))

pub passed-all : (k r : ℕ) → r < 3 → passed k 3 r ≡ k + 1
unfolding passed
passed-all k r l = rw (lt-ltb r 3 l) (omega arith)

passed-other : (k i r : ℕ) → (r ≡ i → ⊥) → passed k (i + 1) r ≡ passed k i r
unfolding passed
passed-other k i r other =
    ⊎_elim (λ (l : r < i). let more : r < i + 1 = omega arith in rw (lt-ltb r i l, lt-ltb r (i + 1) more))
    (λ (l : i ≤ r). let more : i + 1 ≤ r = omega arith in rw (le-ltb r i l, le-ltb r (i + 1) more)) (lt-or-ge r i)

passed-most : (k i r : ℕ) → passed k i r ≤ k + 1
unfolding passed
passed-most k i r = ⊎_elim (λ (l : r < i). rw (lt-ltb r i l) (omega arith)) (λ (l : i ≤ r). rw (le-ltb r i l) (omega arith)) (lt-or-ge r i)

-- ---- a number for each row

module _ {g : ℕ → ℕ → ℕ} where
  pub kept-to : {n m : ℕ → ℕ} {l : List ℕ} → ((r : ℕ) → r < 3 → n r ≡ m r) → Kept g n l → Kept g m l
  kept-to same h = record { long = h.long; at = λ r o. h.at r o ∙ ap (g r) (same r o) }

  pub kept-none : (v : ℕ) → ((r : ℕ) → g r 0 ≡ v) → Kept g (λ _. 0) (replicate 3 v)
  kept-none v first = record { long = length-replicate 3 v; at = λ r o. get_or-replicate 3 r v 0 o ∙ sym (first r) }

  pub kept_here : {k i : ℕ} {l : List ℕ} → Kept g (passed k i) l → i < 3 → get_or l i 0 ≡ g i k
  kept_here {k} {i} h o = h.at i o ∙ ap (g i) (passed_here k i)

  pub kept_next : {k i : ℕ} {l : List ℕ} (v : ℕ) → Kept g (passed k i) l → i < 3 → v ≡ g i (suc k) → Kept g (passed k (i + 1)) (set l i v)
  kept_next {k} {i} {l} v h o e = record { long = length-set l i v ∙ h.long; at = λ r w. by r w (ℕ_discrete r i) }
    where
      by : (r : ℕ) → r < 3 → Dec (r ≡ i) → get_or (set l i v) r 0 ≡ g r (passed k (i + 1) r)
      by r w (yes same) = rw (same, passed-more k i) (get_or-set_same l i v 0 (omega (arith, h.long)) ∙ e)
      by r w (no other) = rw (passed-other k i r other) (get_or-set_other l i r v 0 other ∙ h.at r w)

  pub kept_small : {n b : ℕ} {l : List ℕ} → ((r : ℕ) → r < 3 → g r n ≤ b) → Kept g (λ _. n) l → AtMost b l
  kept_small {n} {b} {l} small h = row_small (λ r. g r n) 3 b (tabulate-is 0 l _ 3 h.long h.at) small

-- ---- a row of nineteen for each

module _ {f : ℕ → ℕ → ℕ} where
  pub columns-to : {n m : ℕ → ℕ} {l : List ℕ} → ((r : ℕ) → r < 3 → n r ≡ m r) → Columns f n l → Columns f m l
  columns-to same h = record { long = h.long; at = λ r j o w. h.at r j o (rw (same r o) w) }

  pub columns-none : {l : List ℕ} → length l ≡ 57 → Columns f (λ _. 0) l
  columns-none e = record { long = e; at = λ r j o w. absurd (omega arith) }

  pub columns-next : {k i : ℕ} {l : List ℕ} (v : ℕ) → Columns f (passed k i) l → i < 3 → k < 19 → v ≡ f i k → Columns f (passed k (i + 1)) (set l (19 * i + k) v)
  columns-next {k} {i} {l} v h o b e = record { long = length-set l (19 * i + k) v ∙ h.long; at = λ r j w q. by r j w q (ℕ_discrete r i) (ℕ_discrete j k) }
    where
      here : 19 * i + k < length l
      here = omega (arith, h.long)

      by : (r j : ℕ) → r < 3 → j < passed k (i + 1) r → Dec (r ≡ i) → Dec (j ≡ k) → get_or (set l (19 * i + k) v) (19 * r + j) 0 ≡ f r j
      by r j w q (yes same) (yes last) = rw (same, last) (get_or-set_same l (19 * i + k) v 0 here ∙ e)
      by r j w q (yes same) (no before) =
          let most : j < suc k = rw (same, passed-more k i) at q in
          let apart : 19 * r + j ≡ 19 * i + k → ⊥ = λ z. before (omega arith) in
          get_or-set_other l (19 * i + k) (19 * r + j) v 0 apart ∙ h.at r j w (rw (same, passed_here k i) (omega arith))
      by r j w q (no other) u =
          let apart : 19 * r + j ≡ 19 * i + k → ⊥ = λ z. other (omega (arith, passed-most k (i + 1) r)) in
          get_or-set_other l (19 * i + k) (19 * r + j) v 0 apart ∙ h.at r j w (rw (passed-other k i r other) at q)

  pub columns-all : {l : List ℕ} → Columns f (λ _. 19) l → l ≡ tabulate (λ j. f (j / 19) (j % 19)) 57
  columns-all {l} h =
      tabulate-is 0 l _ 57 h.long
      (λ j o. let place : 19 * (j / 19) + j % 19 ≡ j = omega arith in ap (λ (n : ℕ). get_or l n 0) (sym place) ∙ h.at (j / 19) (j % 19) (omega arith) (omega arith))

  pub columns-small : {b : ℕ} {l : List ℕ} → ((r j : ℕ) → f r j ≤ b) → Columns f (λ _. 19) l → AtMost b l
  columns-small {b} small h = row_small (λ j. f (j / 19) (j % 19)) 57 b (columns-all h) (λ j _. small (j / 19) (j % 19))
