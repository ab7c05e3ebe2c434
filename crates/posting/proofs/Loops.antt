-- Loops over lists: one that fills a list by a rule of the index, and one that joins a value to each element.
use Prim.Native.Nat.{ℕ, ◌+◌, ◌-◌, ◌≤◌, ◌<◌}
use mathlib.Core.List.{List}
use mathlib.Core.Logic.{◌⊎◌, inl, inr, ⊎_elim}
use mathlib.Core.Path.{◌≡◌, refl, sym, ap, ap₂, subst, ◌∙◌}
use native.Mathlib.Decide.{ℕ_discrete}
use native.Mathlib.Nat.{add-zero}
use native.Mathlib.Omega.{arith}
use lib.ListN.{length, get_or, set, replicate, length-set, length-replicate, get_or-replicate, get_or-eq_default}
use lib.Seq.{get_or-set_same, get_or-set_other}
use borrow.Author.Tests.{lt-ltb, le-ltb, eq-eqb, ne_eqb}
use Rattle.std.specs.Prelude.{if◌then◌else◌}
use Rattle.laws.specs.Tests.{◌is◌, ◌below◌}
use Rattle.laws.specs.Lists.{tabulate, joined, section, splice}
use Rattle.laws.proofs.Tests.{lt-or-ge}
use Rattle.laws.proofs.Lists.{tabulate-length, tabulate-at, tabulate-past, tabulate-is}
use Rattle.laws.proofs.Sections.{length-section, section-at, length-splice, splice-before, splice-in, splice-after}
use Rattle.laws.proofs.Filling.{Filled}
use Rattle.posting.specs.Parts.{AtMost}
use Rattle.laws.proofs.Joins.{joined_length, joined_at, joined_is, joined-ext}

module _ {A : Type 0} (d : A) where
  -- ---- one value throughout: what holds of it, and of what stands past the end, holds at every index

  pub replicate-all : (P : A → Type 0) (n : ℕ) (x : A) → P x → P d → (j : ℕ) → P (get_or (replicate n x) j d)
  replicate-all P n x px pd j =
      ⊎_elim (λ (o : j < n). rw (get_or-replicate n j x d o) px)
      (λ (o : n ≤ j). rw (get_or-eq_default (replicate n x) d {n = j} (rw (length-replicate n x) o)) pd)
      (lt-or-ge j n)

-- a list filled, with one of its numbers raised
pub raised : (f : ℕ → ℕ) (l : List ℕ) (n b x : ℕ) → length l ≡ n → Filled 0 n f l → b < n
    → set l b (get_or l b 0 + x) ≡ tabulate (λ k. f k + (if k is b then x else 0)) n
raised f l n b x e h w = tabulate-is 0 new (λ k. f k + (if k is b then x else 0)) n (length-set l b (get_or l b 0 + x) ∙ e) (λ j o. by j o (ℕ_discrete j b))
  where
    new : List ℕ
    new = set l b (get_or l b 0 + x)

    by : (j : ℕ) → j < n → Dec (j ≡ b) → get_or new j 0 ≡ f j + (if j is b then x else 0)
    by j o (yes same) =
        rw (eq-eqb j b same)
        (rw same (get_or-set_same l b (get_or l b 0 + x) 0 (omega arith)) ∙ ap (λ (m : ℕ). m + x) (ap (λ (i : ℕ). get_or l i 0) (sym same) ∙ h j o))
    by j o (no other) = rw (ne_eqb j b other, add-zero) (get_or-set_other l b j (get_or l b 0 + x) 0 other ∙ h j o)

-- what holds of every value of a rule, and of 0, holds of its list
pub tabulate-all : (P : ℕ → Type 0) (f : ℕ → ℕ) (n : ℕ) → ((j : ℕ) → j < n → P (f j)) → P 0 → (j : ℕ) → P (get_or (tabulate f n) j 0)
tabulate-all P f n h z j =
    ⊎_elim (λ (o : j < n). rw (tabulate-at f n j 0 o) (h j o)) (λ (o : n ≤ j). rw (tabulate-past f n j 0 o) z) (lt-or-ge j n)

-- ---- a list that was filled by a rule: its length, a bound of its numbers, a number of it

pub row-long : (f : ℕ → ℕ) (n : ℕ) {l : List ℕ} → l ≡ tabulate f n → length l ≡ n
row-long f n e = ap length e ∙ tabulate-length f n

pub row_small : (f : ℕ → ℕ) (n b : ℕ) {l : List ℕ} → l ≡ tabulate f n → ((k : ℕ) → k < n → f k ≤ b) → AtMost b l
row_small f n b e h = subst (AtMost b) (sym e) (tabulate-all (λ x. x ≤ b) f n h (omega arith))

pub row_at : (f : ℕ → ℕ) (n : ℕ) {l : List ℕ} → l ≡ tabulate f n → (k : ℕ) → k < n → get_or l k 0 ≡ f k
row_at f n e k o = ap (λ (m : List ℕ). get_or m k 0) e ∙ tabulate-at f n k 0 o

module _ {A : Type 0} (op : A → A → A) (d : A) where
  -- ---- joined from the front: f at the places passed, and nothing after

  unfoldable pub passed : ℕ → (ℕ → A) → ℕ → A
  passed n f j = if j below n then f j else d

  -- a loop has got to n: m is l with f joined at the places before n
  pub record Joining (n : ℕ) (f : ℕ → A) (l m : List A) : Type 0 where
    pub same : m ≡ joined op d l (passed n f)

  joined-rest : ((x : A) → op x d ≡ x) → (f : ℕ → A) (l : List A) (n j : ℕ) → n ≤ j → j < length l → get_or (joined op d l (passed n f)) j d ≡ get_or l j d
  unfolding passed
  joined-rest idr f l n j h lt = joined_at op d l (passed n f) j lt ∙ rw (le-ltb j n h) (idr (get_or l j d))

module _ {A : Type 0} {op : A → A → A} {d : A} (idr : (x : A) → op x d ≡ x) where
  pub joining-none : (f : ℕ → A) (l : List A) → Joining op d 0 f l l
  joining-none f l =
      record { same = joined_is op d l l (passed op d 0 f) refl (λ j lt. sym (sym (joined_at op d l (passed op d 0 f) j lt) ∙ joined-rest op d idr f l 0 j (omega arith) lt)) }

  module _ {n : ℕ} {f : ℕ → A} {l m : List A} (e : Joining op d n f l m) where
    pub joining-done : length l ≤ n → m ≡ joined op d l f
    unfolding passed
    joining-done h = e.same ∙ joined-ext op d l (passed op d n f) f (λ j lt. let in_reach : j < n = omega arith in rw (lt-ltb j n in_reach))

    pub joining-long : length m ≡ length l
    joining-long = ap length e.same ∙ joined_length op d l (passed op d n f)

    passed-at : (j : ℕ) → j < n → j < length l → get_or m j d ≡ op (get_or l j d) (f j)
    unfolding passed
    passed-at j h lt = ap (λ (x : List A). get_or x j d) e.same ∙ joined_at op d l (passed op d n f) j lt ∙ rw (lt-ltb j n h)

    -- a place that the loop has not reached is as it was
    pub joining-rest : (j : ℕ) → n ≤ j → j < length l → get_or m j d ≡ get_or l j d
    joining-rest j h lt = ap (λ (x : List A). get_or x j d) e.same ∙ joined-rest op d idr f l n j h lt

    -- one store at k takes the loop from n to n', where f is nothing at the other places between
    pub joining-more : (n' k : ℕ) {v : A} → v ≡ f k → n ≤ k → k < n' → k < length l → ((j : ℕ) → n ≤ j → j < n' → (j ≡ k → ⊥) → f j ≡ d)
        → Joining op d n' f l (set m k (op (get_or m k d) v))
    unfolding passed
    joining-more n' k {v} value from to lt none =
        record { same = joined_is op d l (set m k new) (passed op d n' f) (length-set m k new ∙ joining-long) (λ j w. by j w (ℕ_discrete j k) (lt-or-ge j n) (lt-or-ge j n')) }
      where
        new : A
        new = op (get_or m k d) v

        by : (j : ℕ) → j < length l → Dec (j ≡ k) → (j < n) ⊎ (n ≤ j) → (j < n') ⊎ (n' ≤ j) → get_or (set m k new) j d ≡ op (get_or l j d) (passed op d n' f j)
        by j w (yes here) u p =
            let done : j < n' = omega arith in
            rw (lt-ltb j n' done) (rw here (get_or-set_same m k new d (omega (arith, joining-long)) ∙ ap₂ op (joining-rest k from lt) value))
        by j w (no o) (inl u) p =
            let done : j < n' = omega arith in
            rw (lt-ltb j n' done) (get_or-set_other m k j new d o ∙ passed-at j u w)
        by j w (no o) (inr u) (inl p) = rw (lt-ltb j n' p) (get_or-set_other m k j new d o ∙ joining-rest j u w ∙ sym (rw (none j u p o) (idr (get_or l j d))))
        by j w (no o) (inr u) (inr p) = rw (le-ltb j n' p) (get_or-set_other m k j new d o ∙ joining-rest j u w ∙ sym (idr (get_or l j d)))

    -- place by place
    pub joining-next : {v : A} → v ≡ f n → n < length l → Joining op d (n + 1) f l (set m n (op (get_or m n d) v))
    joining-next value lt = joining-more (n + 1) n value (omega arith) (omega arith) lt (λ j u w o. absurd (o (omega arith)))

    -- part by part: the part that comes next is as it was
    module _ (k : ℕ) (w : n + k ≤ length l) where
      part-rest : (j : ℕ) → j < k → get_or (section n k m) j d ≡ get_or l (n + j) d
      part-rest j o = section-at n k m j d o ∙ joining-rest (n + j) (omega arith) (omega arith)

      part-long : length (section n k m) ≡ k
      part-long = length-section n k m (rw joining-long w)

      pub part-all : (P : A → Type 0) → P d → ((j : ℕ) → P (get_or l j d)) → (j : ℕ) → P (get_or (section n k m) j d)
      part-all P none h j =
          ⊎_elim (λ (o : j < k). rw (part-rest j o) (h (n + j)))
          (λ (o : k ≤ j). rw (get_or-eq_default (section n k m) d {n = j} (omega (arith, part-long))) none)
          (lt-or-ge j k)

      pub joining-part : (g : ℕ → A) {part : List A} → part ≡ joined op d (section n k m) g → ((j : ℕ) → j < k → g j ≡ f (n + j))
          → Joining op d (n + k) f l (splice n k m part)
      unfolding passed
      joining-part g {part} p agree =
          record { same = joined_is op d l (splice n k m part) (passed op d (n + k) f) (length-splice n k m part sized ∙ joining-long) (λ j o. by j o (lt-or-ge j n) (lt-or-ge j (n + k))) }
        where
          sized : length part ≡ length (section n k m)
          sized = ap length p ∙ joined_length op d (section n k m) g

          by : (j : ℕ) → j < length l → (j < n) ⊎ (n ≤ j) → (j < n + k) ⊎ (n + k ≤ j) → get_or (splice n k m part) j d ≡ op (get_or l j d) (passed op d (n + k) f j)
          by j o (inl u) v =
              let done : j < n + k = omega arith in
              rw (lt-ltb j (n + k) done) (splice-before n k m part j d u (omega (arith, joining-long)) ∙ passed-at j u o)
          by j o (inr u) (inl v) =
              let place : n + (j - n) ≡ j = omega arith in
              let i : j - n < k = omega arith in
              rw (lt-ltb j (n + k) v)
              (ap (λ (i : ℕ). get_or (splice n k m part) i d) (sym place)
              ∙ splice-in n k m part (j - n) d (omega (arith, sized, part-long)) (omega (arith, joining-long))
              ∙ ap (λ (x : List A). get_or x (j - n) d) p
              ∙ joined_at op d (section n k m) g (j - n) (omega (arith, part-long))
              ∙ ap₂ op (part-rest (j - n) i ∙ ap (λ (i : ℕ). get_or l i d) place) (agree (j - n) i ∙ ap f place))
          by j o (inr u) (inr v) =
              let place : n + (k + (j - (n + k))) ≡ j = omega arith in
              rw (le-ltb j (n + k) v)
              (ap (λ (i : ℕ). get_or (splice n k m part) i d) (sym place)
              ∙ splice-after n k m part (j - (n + k)) d (sized ∙ part-long) (omega (arith, joining-long))
              ∙ ap (λ (i : ℕ). get_or m i d) place
              ∙ joining-rest j u o
              ∙ sym (idr (get_or l j d)))
