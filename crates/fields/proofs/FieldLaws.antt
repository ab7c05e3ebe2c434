-- What a field comes to where its value is bad and where it is not, and n fields in a row. Of the paper's definitions alone.
use Prim.Native.Nat.{ℕ, zero, suc, ◌+◌, ◌*◌, ◌≤◌, ◌<◌}
use mathlib.Core.Bool.{Bool, true, false, not, ◌||◌}
use mathlib.Core.List.{List, ◌∷◌}
use mathlib.Core.Logic.{◌⊎◌, inl, inr, ⊎_elim}
use mathlib.Core.Path.{◌≡◌, refl, sym, ◌∙◌}
use native.Mathlib.Nat.{add-zero, eq-or-lt_of_le}
use native.Mathlib.Omega.{arith}
use borrow.Author.Tests.{ne_eqb}
use lib.IntN.{ℤ, pos, negsuc, neg_ℤ}
use lib.Signed.{lt_z}
use lib.Dec.{leb-suc-suc}
use Rattle.laws.specs.Tests.{first}
use Rattle.laws.specs.Lists.{tabulate_from, tabulate}
use Rattle.laws.proofs.Tests.{lt-or-ge, first_holds, first-before}
use Rattle.paper.specs.declared.Refusal.{Refusal}
use Rattle.paper.specs.Scales.{billion}
use Rattle.paper.specs.declared.Fault.{Fault}
use Rattle.paper.specs.Refusals.{Checked, accepted, refused, ◌>>=◌, unless, result_of}
use Rattle.paper.specs.TurnedDown.{bad_period, bad_option}
use Rattle.paper.specs.Fields.{field, each}
use Rattle.std.specs.Prelude.{Result}
use Rattle.fields.specs.Answers.{as_it_is}

-- ---- one field

module _ {A : Type 0} (bad : A → Bool) (q : Refusal) where
  pub field-good : (o : ℕ) (x : A) → bad x ≡ false → field bad q o x ≡ accepted x
  unfolding field unless
  field-good o x e = rw e

  pub field-bad : (o : ℕ) (x : A) → bad x ≡ true → field bad q o x ≡ refused q (suc o)
  unfolding field unless
  field-bad o x e = rw e

  -- as the code answers it, where `good` is the test that was made
  pub answered : (o : ℕ) {B : Type 0} (as_code : A → B) (good : Bool) {x : B} {y : A} {r : Result B Fault}
      → r ≡ result_of as_it_is (field (λ _. not good) q o x) → not good ≡ bad y → x ≡ as_code y → r ≡ result_of as_code (field bad q o y)
  unfolding field unless
  answered o as_code good {y = y} p t e = p ∙ rw (t, e) (by (bad y))
    where
      by : (b : Bool) → result_of as_it_is (unless b q (suc o) (as_code y)) ≡ result_of as_code (unless b q (suc o) y)
      by true = refl
      by false = refl

-- and back
module _ {A : Type 0} (bad : A → Bool) (q : Refusal) (o : ℕ) (x : A) where
  pub field-accepts : (y : A) → field bad q o x ≡ accepted y → (x ≡ y) × (bad x ≡ false)
  unfolding field unless
  field-accepts y e = by (bad x) refl e
    where
      by : (b : Bool) → bad x ≡ b → unless b q (suc o) x ≡ accepted y → (x ≡ y) × (bad x ≡ false)
      by true t u = (cc, cc)
      by false t u = (cc, t)

  pub field-refuses : (r : Refusal) (place : ℕ) → field bad q o x ≡ refused r place → bad x ≡ true
  unfolding field unless
  field-refuses r place e = by (bad x) refl e
    where
      by : (b : Bool) → bad x ≡ b → unless b q (suc o) x ≡ refused r place → bad x ≡ true
      by true t u = t
      by false t u = cc

pub or_nothing : (b : Bool) → b || false ≡ b
or_nothing true = refl
or_nothing false = refl

-- a magnitude above the limit is a value below or above a range
pub option-outside : (z : ℤ) → bad_option z ≡ lt_z z (neg_ℤ (pos billion)) || lt_z (pos billion) z
unfolding bad_option
option-outside (pos n) = refl
option-outside (negsuc n) = leb-suc-suc 1000000000 n ∙ sym (or_nothing _)

pub period-listed : (p : ℕ) → (p ≡ 1) ⊎ ((p ≡ 3) ⊎ ((p ≡ 6) ⊎ (p ≡ 12))) → bad_period p ≡ false
unfolding bad_period
period-listed p = ⊎_elim (λ e. rw e) (⊎_elim (λ e. rw e) (⊎_elim (λ e. rw e) (λ e. rw e)))

pub period-unlisted : (p : ℕ) → ((p ≡ 1) ⊎ ((p ≡ 3) ⊎ ((p ≡ 6) ⊎ (p ≡ 12))) → ⊥) → bad_period p ≡ true
unfolding bad_period
period-unlisted p f =
    rw (ne_eqb p 1 (λ e. f (inl e)), ne_eqb p 3 (λ e. f (inr (inl e))), ne_eqb p 6 (λ e. f (inr (inr (inl e)))), ne_eqb p 12 (λ e. f (inr (inr (inr e)))))

-- ---- n fields in a row

-- the first of them, and what follows
pub each_more : {A B : Type 0} (read : ℕ → Checked A) (n o : ℕ) (next : List A → Checked B)
    → (each read (suc n) o >>= next) ≡ (read o >>= (λ x. each read n (o + 4) >>= (λ xs. next (x ∷ xs))))
unfolding each ◌>>=◌
each_more read n o next = by (read o) (each read n (o + 4))
  where
    by : (m : Checked _) (rest : Checked (List _)) → ((m >>= (λ x. rest >>= (λ xs. accepted (x ∷ xs)))) >>= next) ≡ (m >>= (λ x. rest >>= (λ xs. next (x ∷ xs))))
    by (accepted x) (accepted xs) = refl
    by (accepted x) (refused q at) = refl
    by (refused q at) rest = refl

-- fields of one circumstance: `get` reads the value whose first byte is given
module _ {A : Type 0} (bad : A → Bool) (q : Refusal) (get : ℕ → A) where
  abbrev run : ℕ → ℕ → Checked (List A)
  run = each (λ o. field bad q o (get o))

  -- the field k of those from o on
  abbrev nth : ℕ → ℕ → A
  nth o k = get (o + 4 * k)

  abbrev read : ℕ → ℕ → Checked A
  read o k = field bad q (o + 4 * k) (nth o k)

  next-at : (o a : ℕ) → o + 4 * a + 4 ≡ o + 4 * suc a
  next-at o a = omega arith

  good-from : (o a n : ℕ) → ((k : ℕ) → a ≤ k → k < a + n → bad (nth o k) ≡ false) → run n (o + 4 * a) ≡ accepted (tabulate_from (nth o) a n)
  unfolding each tabulate_from ◌>>=◌
  good-from o a zero h = refl
  good-from o a (suc n) h =
      rw (field-good bad q (o + 4 * a) (nth o a) (h a (omega arith) (omega arith)), next-at o a, good-from o (suc a) n (λ k l m. h k (omega arith) (omega arith)))

  bad-from : (o a n k : ℕ) {r : Refusal} {place : ℕ} → a ≤ k → k < a + n → read o k ≡ refused r place → ((j : ℕ) → a ≤ j → j < k → bad (nth o j) ≡ false)
      → run n (o + 4 * a) ≡ refused r place
  unfolding each ◌>>=◌
  bad-from o a zero k l m e h = absurd (omega arith)
  bad-from o a (suc n) k {r} {place} l m e h =
      ⊎_elim here (λ p. later p (bad-from o (suc a) n k p (omega arith) e (λ j u v. h j (omega arith) v))) (eq-or-lt_of_le l)
    where
      here : a ≡ k → run (suc n) (o + 4 * a) ≡ refused r place
      here t = rw (t, e)

      later : a < k → run n (o + 4 * suc a) ≡ refused r place → run (suc n) (o + 4 * a) ≡ refused r place
      later p t = rw (field-good bad q (o + 4 * a) (nth o a) (h a (omega arith) p), next-at o a, t)

  -- each is fine
  pub each-good : (o n : ℕ) → ((k : ℕ) → k < n → bad (nth o k) ≡ false) → run n o ≡ accepted (tabulate (nth o) n)
  each-good o n h = rw add-zero at (good-from o 0 n (λ k l m. h k (omega arith)))

  -- k is the first that is refused
  pub each-bad : (o n k : ℕ) {r : Refusal} {place : ℕ} → k < n → read o k ≡ refused r place → ((j : ℕ) → j < k → bad (nth o j) ≡ false) → run n o ≡ refused r place
  each-bad o n k l e h = rw add-zero at (bad-from o 0 n k (omega arith) (omega arith) e (λ j u v. h j v))

  -- one or the other
  abbrev Fine : ℕ → ℕ → Type 0
  Fine o n = (run n o ≡ accepted (tabulate (nth o) n)) × ((k : ℕ) → k < n → bad (nth o k) ≡ false)

  ends : (o n : ℕ) → Fine o n ⊎ ((place : ℕ) × (run n o ≡ refused q place))
  ends o n =
      ⊎_elim (λ l. inr (_, each-bad o n stop l (field-bad bad q (o + 4 * stop) (nth o stop) (first_holds p 0 n (omega arith))) (λ j m. first-before p 0 n j (omega arith) m)))
      (λ l. inl (each-good o n (all-good l), all-good l)) (lt-or-ge stop n)
    where
      p : ℕ → Bool
      p k = bad (nth o k)

      stop : ℕ
      stop = first p 0 n

      all-good : n ≤ stop → (k : ℕ) → k < n → p k ≡ false
      all-good l k m = first-before p 0 n k (omega arith) (omega arith)

  -- and back
  pub each-accepts : (o n : ℕ) (xs : List A) → run n o ≡ accepted xs → (xs ≡ tabulate (nth o) n) × ((k : ℕ) → k < n → bad (nth o k) ≡ false)
  each-accepts o n xs e = ⊎_elim fine gone (ends o n)
    where
      fine : Fine o n → (xs ≡ tabulate (nth o) n) × ((k : ℕ) → k < n → bad (nth o k) ≡ false)
      fine (g, h) = (cc, h)

      gone : ((place : ℕ) × (run n o ≡ refused q place)) → (xs ≡ tabulate (nth o) n) × ((k : ℕ) → k < n → bad (nth o k) ≡ false)
      gone (place, g) = (cc, λ k l. cc)
