-- Sums over the first n indices, and the greatest of the first n.
use Prim.Native.Nat.{ℕ, zero, suc, ◌+◌, ◌-◌, ◌*◌, ◌≤◌, ◌<◌, max}
use mathlib.Core.Logic.{◌⊎◌, inl, inr, ⊎_elim, ◌≢◌}
use mathlib.Core.Path.{◌≡◌, refl, sym, ap, ap₂, ◌∙◌}
use native.Mathlib.Nat.{add-zero, le_refl, mul-zero, eq-or-lt_of_le, max-le}
use native.Mathlib.Numerals.{add-one}
use native.Mathlib.Omega.{arith}
use borrow.Author.Tests.{eq-eqb, ne_eqb}
use lib.IntN.{ℤ, pos, nat_abs, ◌+ℤ◌}
use Rattle.laws.specs.Sums.{sum, sum_ℤ, greatest}
use Rattle.std.specs.Prelude.{if◌then◌else◌}
use Rattle.laws.specs.Tests.{◌is◌}
use Rattle.laws.proofs.Tests.{lt-or-ge}
use Rattle.laws.proofs.Integers.{add_is, abs-add}
use Rattle.laws.proofs.Order.{ints}

-- ---- one more, as a loop has it; and the first apart

pub sum_more : (f : ℕ → ℕ) (k : ℕ) → sum f (k + 1) ≡ sum f k + f k
unfolding sum
sum_more f k = rw add-one

pub sum_ℤ-more : (f : ℕ → ℤ) (k : ℕ) → sum_ℤ f (k + 1) ≡ sum_ℤ f k +ℤ f k
unfolding sum_ℤ
sum_ℤ-more f k = rw add-one

pub sum-front : (f : ℕ → ℕ) (n : ℕ) → sum f (suc n) ≡ f 0 + sum (λ k. f (suc k)) n
unfolding sum
sum-front f zero = omega arith
sum-front f (suc n) = omega (arith, sum-front f n)

-- ---- sums whose terms agree, terms added, terms times a number

pub sum-ext : (f g : ℕ → ℕ) (n : ℕ) → ((k : ℕ) → k < n → f k ≡ g k) → sum f n ≡ sum g n
unfolding sum
sum-ext f g zero h = refl
sum-ext f g (suc n) h = ap₂ ◌+◌ (sum-ext f g n (λ k l. h k (omega arith))) (h n (omega arith))

pub sum_ℤ-ext : (f g : ℕ → ℤ) (n : ℕ) → ((k : ℕ) → k < n → f k ≡ g k) → sum_ℤ f n ≡ sum_ℤ g n
unfolding sum_ℤ
sum_ℤ-ext f g zero h = refl
sum_ℤ-ext f g (suc n) h = ap₂ ◌+ℤ◌ (sum_ℤ-ext f g n (λ k l. h k (omega arith))) (h n (omega arith))

pub sum-nil : (n : ℕ) → sum (λ k. 0) n ≡ 0
unfolding sum
sum-nil zero = refl
sum-nil (suc n) = omega (arith, sum-nil n)

pub sum-add : (f g : ℕ → ℕ) (n : ℕ) → sum (λ k. f k + g k) n ≡ sum f n + sum g n
unfolding sum
sum-add f g zero = refl
sum-add f g (suc n) = omega (arith, sum-add f g n)

pub sum_ℤ-add : (f g : ℕ → ℤ) (n : ℕ) → sum_ℤ (λ k. f k +ℤ g k) n ≡ sum_ℤ f n +ℤ sum_ℤ g n
unfolding sum_ℤ
sum_ℤ-add f g zero = refl
sum_ℤ-add f g (suc n) =
    rw (sum_ℤ-add f g n) (regrouped (sum_ℤ f n) (sum_ℤ g n) (f n) (g n))
  where
    regrouped : (a b c d : ℤ) → (a +ℤ b) +ℤ (c +ℤ d) ≡ (a +ℤ c) +ℤ (b +ℤ d)
    regrouped a b c d = omega (ints, add_is a b, add_is c d, add_is a c, add_is b d, add_is (a +ℤ b) (c +ℤ d), add_is (a +ℤ c) (b +ℤ d))

pub sum-times : (c : ℕ) (f : ℕ → ℕ) (n : ℕ) → sum (λ k. c * f k) n ≡ c * sum f n
unfolding sum
sum-times c f zero = sym (mul-zero c)
sum-times c f (suc n) = omega (arith, sum-times c f n)

pub pos_sum : (f : ℕ → ℕ) (n : ℕ) → sum_ℤ (λ k. pos (f k)) n ≡ pos (sum f n)
unfolding sum sum_ℤ
pos_sum f zero = refl
pos_sum f (suc n) = rw (pos_sum f n)

-- ---- bounds

pub sum-le : (f g : ℕ → ℕ) (n : ℕ) → ((k : ℕ) → k < n → f k ≤ g k) → sum f n ≤ sum g n
unfolding sum
sum-le f g zero h = le_refl 0
sum-le f g (suc n) h = omega (arith, sum-le f g n (λ k l. h k (omega arith)), h n (omega arith))

pub sum-most : (f : ℕ → ℕ) (n b : ℕ) → ((k : ℕ) → k < n → f k ≤ b) → sum f n ≤ n * b
unfolding sum
sum-most f zero b h = omega arith
sum-most f (suc n) b h = omega (arith, sum-most f n b (λ k l. h k (omega arith)), h n (omega arith))

pub sum_mono : (f : ℕ → ℕ) (k d : ℕ) → sum f k ≤ sum f (k + d)
sum_mono f k zero = rw add-zero (le_refl _)
sum_mono f k (suc d) =
    let e : k + suc d ≡ (k + d) + 1 = omega arith in
    rw e (omega (arith, sum_mono f k d, sum_more f (k + d)))

-- the term at k lies within every sum that goes past it
pub sum-upto : (f : ℕ → ℕ) (k n : ℕ) → k < n → sum f k + f k ≤ sum f n
sum-upto f k n h =
    let e : (k + 1) + (n - (k + 1)) ≡ n = omega arith in
    omega (arith, rw e at (sum_mono f (k + 1) (n - (k + 1))), sum_more f k)

pub abs-sum : (f : ℕ → ℤ) (n : ℕ) → nat_abs (sum_ℤ f n) ≤ sum (λ k. nat_abs (f k)) n
unfolding sum sum_ℤ
abs-sum f zero = le_refl 0
abs-sum f (suc n) = omega (arith, abs-sum f n, abs-add (sum_ℤ f n) (f n))

-- ---- one term and nothing else

pub sum-none : (f : ℕ → ℕ) (n : ℕ) → ((k : ℕ) → k < n → f k ≡ 0) → sum f n ≡ 0
sum-none f n h = sum-ext f (λ k. 0) n h ∙ sum-nil n

-- past n there is nothing more
pub sum-rest : (f : ℕ → ℕ) (n m : ℕ) → n ≤ m → ((k : ℕ) → n ≤ k → k < m → f k ≡ 0) → sum f m ≡ sum f n
sum-rest f n m l h = let end : n + (m - n) ≡ m = omega arith in rw end at (by (m - n) (λ k a b. h k a (omega arith)))
  where
    by : (d : ℕ) → ((k : ℕ) → n ≤ k → k < n + d → f k ≡ 0) → sum f (n + d) ≡ sum f n
    by zero h = ap (sum f) (add-zero n)
    by (suc d) h =
        let last : n + suc d ≡ n + d + 1 = omega arith in
        rw last (omega (arith, sum_more f (n + d), by d (λ k a b. h k a (omega arith)), h (n + d) (omega arith) (omega arith)))

pub sum-only : (f : ℕ → ℕ) (n j : ℕ) → j < n → ((k : ℕ) → k < n → k ≢ j → f k ≡ 0) → sum f n ≡ f j
unfolding sum
sum-only f zero j h none = absurd (omega arith)
sum-only f (suc n) j h none =
    ⊎_elim
    (λ (e : suc j ≡ suc n).
    let same : n ≡ j = omega arith in
    omega (arith, sum-none f n (λ k l. none k (omega arith) (omega arith)), ap f same))
    (λ (l : suc j < suc n).
    omega (arith, sum-only f n j (omega arith) (λ k m o. none k (omega arith) o), none n (omega arith) (omega arith)))
    (eq-or-lt_of_le h)

pub sum_one : (a n j : ℕ) → j < n → sum (λ k. if k is j then a else 0) n ≡ a
sum_one a n j h = sum-only (λ k. if k is j then a else 0) n j h (λ k l o. rw (ne_eqb k j o)) ∙ rw (eq-eqb j j refl)

pub sum_past : (a n j : ℕ) → n ≤ j → sum (λ k. if k is j then a else 0) n ≡ 0
sum_past a n j h = sum-none (λ k. if k is j then a else 0) n (λ k l. rw (ne_eqb k j (omega arith)))

-- ---- the greatest

pub at_most : (f : ℕ → ℕ) (n i : ℕ) → 0 < i → i ≤ n → f i ≤ greatest f n
unfolding greatest
at_most f zero i p l = absurd (omega arith)
at_most f (suc n) i p l =
    ⊎_elim (λ (e : i ≡ suc n). rw e (omega arith)) (λ (m : i < suc n). omega (arith, at_most f n i p (omega arith))) (eq-or-lt_of_le l)

pub greatest-least : (f : ℕ → ℕ) (n b : ℕ) → ((i : ℕ) → 0 < i → i ≤ n → f i ≤ b) → greatest f n ≤ b
unfolding greatest
greatest-least f zero b h = omega arith
greatest-least f (suc n) b h = max-le (greatest-least f n b (λ i p l. h i p (omega arith))) (h (suc n) (omega arith) (omega arith))

pub greatest-ext : (f g : ℕ → ℕ) (n : ℕ) → ((i : ℕ) → 0 < i → i ≤ n → f i ≡ g i) → greatest f n ≡ greatest g n
unfolding greatest
greatest-ext f g zero h = refl
greatest-ext f g (suc n) h = ap₂ max (greatest-ext f g n (λ i p l. h i p (omega arith))) (h (suc n) (omega arith) (omega arith))

pub greatest-reached : (f : ℕ → ℕ) (n : ℕ) → (greatest f n ≡ 0) ⊎ ((i : ℕ) × (0 < i) × (i ≤ n) × (f i ≡ greatest f n))
unfolding greatest
greatest-reached f zero = inl refl
greatest-reached f (suc n) = by (lt-or-ge (greatest f n) (f (suc n))) (greatest-reached f n)
  where
    by : (greatest f n < f (suc n)) ⊎ (f (suc n) ≤ greatest f n) → (greatest f n ≡ 0) ⊎ ((i : ℕ) × (0 < i) × (i ≤ n) × (f i ≡ greatest f n))
        → (max (greatest f n) (f (suc n)) ≡ 0) ⊎ ((i : ℕ) × (0 < i) × (i ≤ suc n) × (f i ≡ max (greatest f n) (f (suc n))))
    by (inl l) r = inr (suc n, omega arith, omega arith, omega arith)
    by (inr l) (inl e) = inl (omega arith)
    by (inr l) (inr r) = inr (r.0, r.1, omega (arith, r.2), omega (arith, r.3))
