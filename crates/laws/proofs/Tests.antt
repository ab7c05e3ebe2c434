-- What the value of a test tells of its parts, and what `all`, `any` and `first` tell of each number of their run.
use Prim.Native.Nat.{ℕ, zero, suc, ◌+◌, ◌≤◌, ◌<◌}
use mathlib.Core.Bool.{Bool, true, false, not, ◌&&◌, ◌||◌, true≢false}
use mathlib.Core.Logic.{◌⊎◌, inl, inr, ⊎_elim}
use mathlib.Core.Path.{◌≡◌, refl, sym, ap, ap₂, ◌∙◌}
use native.Mathlib.Decide.{dec_lt}
use native.Mathlib.Nat.{add-zero, le_refl, eq-or-lt_of_le}
use native.Mathlib.Omega.{arith}
use borrow.Author.Tests.{not-true, not-false}
use Rattle.std.specs.Prelude.{if◌then◌else◌}
use Rattle.laws.specs.Tests.{all, any, first}

pub lt-or-ge : (a b : ℕ) → (a < b) ⊎ (b ≤ a)
lt-or-ge a b = by (dec_lt a b)
  where
    by : Dec (a < b) → (a < b) ⊎ (b ≤ a)
    by (yes h) = inl h
    by (no h) = inr (omega arith)

-- ---- two tests joined

pub and-true : (a b : Bool) → a && b ≡ true → (a ≡ true) × (b ≡ true)
and-true true b e = (refl, e)
and-true false b e = absurd (true≢false (sym e))

pub or-true : (a b : Bool) → a || b ≡ true → (a ≡ true) ⊎ (b ≡ true)
or-true true b e = inl refl
or-true false b e = inr e

pub or-false : (a b : Bool) → a || b ≡ false → (a ≡ false) × (b ≡ false)
or-false true b e = absurd (true≢false e)
or-false false b e = (refl, e)

-- ---- a test at each number of a run

-- a number of a run is its first or one of the others
apart : {P : ℕ → Type 0} (a n : ℕ) → P a → ((i : ℕ) → suc a ≤ i → i < suc a + n → P i) → (i : ℕ) → a ≤ i → i < a + suc n → P i
apart {P} a n here rest i l h = ⊎_elim (λ (e : a ≡ i). rw (← e) here) (λ m. rest i m (omega arith)) (eq-or-lt_of_le l)

pub all-at : (p : ℕ → Bool) (a n : ℕ) → all p a n ≡ true → (i : ℕ) → a ≤ i → i < a + n → p i ≡ true
unfolding all
all-at p a zero t = λ i l h. absurd (omega arith)
all-at p a (suc n) t = by (p a) refl t (all-at p (suc a) n)
  where
    by : (b : Bool) → p a ≡ b → (if b then all p (suc a) n else false) ≡ true
        → (all p (suc a) n ≡ true → (i : ℕ) → suc a ≤ i → i < suc a + n → p i ≡ true) → (i : ℕ) → a ≤ i → i < a + suc n → p i ≡ true
    by true e u rest = apart {P = λ i. p i ≡ true} a n e (rest u)
    by false e u rest = absurd (true≢false (sym u))

pub all_of : (p : ℕ → Bool) (a n : ℕ) → ((i : ℕ) → a ≤ i → i < a + n → p i ≡ true) → all p a n ≡ true
unfolding all
all_of p a zero h = refl
all_of p a (suc n) h = rw (h a (omega arith) (omega arith)) (all_of p (suc a) n (λ i l m. h i (omega arith) (omega arith)))

-- one number at which the test fails is enough
pub all-not : (p : ℕ → Bool) (a n i : ℕ) → a ≤ i → i < a + n → p i ≡ false → all p a n ≡ false
all-not p a n i l h e = by (all p a n) refl
  where
    by : (b : Bool) → all p a n ≡ b → b ≡ false
    by true t = absurd (true≢false (sym (all-at p a n t i l h) ∙ e))
    by false t = refl

pub all-ext : (p q : ℕ → Bool) (a n : ℕ) → ((i : ℕ) → a ≤ i → i < a + n → p i ≡ q i) → all p a n ≡ all q a n
unfolding all
all-ext p q a zero h = refl
all-ext p q a (suc n) h =
    ap₂ (λ (b c : Bool). if b then c else false) (h a (omega arith) (omega arith))
    (all-ext p q (suc a) n (λ i l m. h i (omega arith) (omega arith)))

-- one number more, at the end
pub all_more : (p : ℕ → Bool) (a n : ℕ) → all p a (suc n) ≡ all p a n && p (a + n)
unfolding all
all_more p a zero = rw add-zero (by (p a))
  where
    by : (b : Bool) → (if b then true else false) ≡ b
    by true = refl
    by false = refl
all_more p a (suc n) =
    let e : suc a + n ≡ a + suc n = omega arith in
    by (p a) (all_more p (suc a) n ∙ ap (λ (k : ℕ). all p (suc a) n && p k) e)
  where
    by : (b : Bool) → all p (suc a) (suc n) ≡ all p (suc a) n && p (a + suc n)
        → (if b then all p (suc a) (suc n) else false) ≡ (if b then all p (suc a) n else false) && p (a + suc n)
    by true h = h
    by false h = refl

-- ---- the first number of a run at which a test holds

-- ---- any: what `all` says of the test's opposite

pub any-is : (p : ℕ → Bool) (a n : ℕ) → any p a n ≡ not (all (λ i. not (p i)) a n)
unfolding any all
any-is p a zero = refl
any-is p a (suc n) = by (p a) (any-is p (suc a) n)
  where
    by : (b : Bool) → any p (suc a) n ≡ not (all (λ i. not (p i)) (suc a) n)
        → (if b then true else any p (suc a) n) ≡ not (if not b then all (λ i. not (p i)) (suc a) n else false)
    by true e = refl
    by false e = e

pub any_at : (p : ℕ → Bool) (a n i : ℕ) → a ≤ i → i < a + n → p i ≡ true → any p a n ≡ true
any_at p a n i l h e = any-is p a n ∙ ap not (all-not (λ j. not (p j)) a n i l h (ap not e))

pub any_none : (p : ℕ → Bool) (a n : ℕ) → any p a n ≡ false → (i : ℕ) → a ≤ i → i < a + n → p i ≡ false
any_none p a n e i l h = not-true (p i) (all-at (λ j. not (p j)) a n (not-false _ (sym (any-is p a n) ∙ e)) i l h)

pub none_any : (p : ℕ → Bool) (a n : ℕ) → ((i : ℕ) → a ≤ i → i < a + n → p i ≡ false) → any p a n ≡ false
none_any p a n h = any-is p a n ∙ ap not (all_of (λ j. not (p j)) a n (λ i l m. ap not (h i l m)))

pub any-ext : (p q : ℕ → Bool) (a n : ℕ) → ((i : ℕ) → a ≤ i → i < a + n → p i ≡ q i) → any p a n ≡ any q a n
any-ext p q a n h = any-is p a n ∙ ap not (all-ext (λ i. not (p i)) (λ i. not (q i)) a n (λ i l m. ap not (h i l m))) ∙ sym (any-is q a n)

-- where `first` stops, said so that at most one number does it: all the laws below follow
pub record Stops (p : ℕ → Bool) (a n k : ℕ) : Type 0 where
  pub from : a ≤ k
  pub to : k ≤ a + n
  pub before : (j : ℕ) → a ≤ j → j < k → p j ≡ false
  pub holds : k < a + n → p k ≡ true

pub first_stops : (p : ℕ → Bool) (a n : ℕ) → Stops p a n (first p a n)
unfolding first
first_stops p a zero =
    record { from = le_refl a; to = omega arith; before = λ j l m. absurd (omega arith); holds = λ l. absurd (omega arith) }
first_stops p a (suc n) = by (p a) refl (first_stops p (suc a) n)
  where
    by : (b : Bool) → p a ≡ b → Stops p (suc a) n (first p (suc a) n) → Stops p a (suc n) (if b then a else first p (suc a) n)
    by true e r = record { from = le_refl a; to = omega arith; before = λ j l m. absurd (omega arith); holds = λ l. e }
    by false e r = record {
      from = omega (arith, r.from);
      to = omega (arith, r.to);
      before = λ j l m. ⊎_elim (λ (q : a ≡ j). ap p (sym q) ∙ e) (λ q. r.before j q m) (eq-or-lt_of_le l);
      holds = λ l. r.holds (omega arith);
    }

pub stops-once : {p : ℕ → Bool} {a n k m : ℕ} → Stops p a n k → Stops p a n m → k ≡ m
stops-once {p} {a} {n} {k} {m} s t = by (lt-or-ge k m) (lt-or-ge m k)
  where
    never : (i j : ℕ) → Stops p a n i → Stops p a n j → i < j → ⊥
    never i j u v l = true≢false (sym (u.holds (omega (arith, v.to))) ∙ v.before i u.from l)

    by : (k < m) ⊎ (m ≤ k) → (m < k) ⊎ (k ≤ m) → k ≡ m
    by (inl l) r = absurd (never k m s t l)
    by (inr l) (inl r) = absurd (never m k t s r)
    by (inr l) (inr r) = omega arith

pub first-from : (p : ℕ → Bool) (a n : ℕ) → a ≤ first p a n
first-from p a n = (first_stops p a n).from

pub first_to : (p : ℕ → Bool) (a n : ℕ) → first p a n ≤ a + n
first_to p a n = (first_stops p a n).to

pub first_holds : (p : ℕ → Bool) (a n : ℕ) → first p a n < a + n → p (first p a n) ≡ true
first_holds p a n = (first_stops p a n).holds

pub first-before : (p : ℕ → Bool) (a n k : ℕ) → a ≤ k → k < first p a n → p k ≡ false
first-before p a n = (first_stops p a n).before

pub first-none : (p : ℕ → Bool) (a n : ℕ) → first p a n ≡ a + n → (k : ℕ) → a ≤ k → k < a + n → p k ≡ false
first-none p a n e k l h = first-before p a n k l (omega arith)

pub first-is : (p : ℕ → Bool) (a n k : ℕ) → a ≤ k → k < a + n → p k ≡ true → ((j : ℕ) → a ≤ j → j < k → p j ≡ false) → first p a n ≡ k
first-is p a n k l h t f = stops-once (first_stops p a n) (record { from = l; to = omega arith; before = f; holds = λ m. t })

pub none_first : (p : ℕ → Bool) (a n : ℕ) → ((k : ℕ) → a ≤ k → k < a + n → p k ≡ false) → first p a n ≡ a + n
none_first p a n f =
    stops-once (first_stops p a n) (record { from = omega arith; to = le_refl (a + n); before = f; holds = λ l. absurd (omega arith) })

pub first-ext : (p q : ℕ → Bool) (a n : ℕ) → ((i : ℕ) → a ≤ i → i < a + n → p i ≡ q i) → first p a n ≡ first q a n
first-ext p q a n h = stops-once (first_stops p a n) (record {
  from = first-from q a n;
  to = first_to q a n;
  before = λ j l m. h j l (omega (arith, first_to q a n)) ∙ first-before q a n j l m;
  holds = λ l. h (first q a n) (first-from q a n) l ∙ first_holds q a n l;
})
