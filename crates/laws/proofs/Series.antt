-- The laws of the exponential's sum, for every degree m and every denominator q: E(a + b) against E(a) E(b), from above and from below.
use Prim.Native.Nat.{ℕ, zero, suc, ◌+◌, ◌*◌, ◌^◌, ◌≤◌, ◌<◌}
use mathlib.Core.Logic.{⊎_elim, ◌≢◌}
use mathlib.Core.Path.{◌≡◌, refl, ◌∙◌}
use native.Mathlib.Nat.{le_trans, mul-pos, one-le-pow, pow-le-pow_left, mul-le-mul_left, mul-le-mul_right, le_of_mul-le-mul_left, le_of_mul-le-mul_right}
use native.Mathlib.Omega.{arith}
use borrow.Author.Tests.{le-leb, lt-leb}
use Rattle.laws.specs.Series.{cleared, exponential_top, exponential_bottom}
use Rattle.laws.specs.Sums.{sum}
use Rattle.std.specs.Prelude.{if◌then◌else◌}
use Rattle.laws.specs.Tests.{◌up_to◌}
use Rattle.laws.proofs.DividedPowers.{Step≤, Step≥, sums-above, sums-below}
use Rattle.laws.proofs.Sums.{sum-ext, sum-le, sum-upto, sum-only}
use Rattle.laws.proofs.Terms.{factorial-pos, cleared-first, cleared-none, cleared-last, cleared-step, cleared-grows}
use Rattle.laws.proofs.Tests.{lt-or-ge}

-- ---- the ends

pub bottom-pos : (q m : ℕ) → 0 < q → 0 < exponential_bottom q m
unfolding exponential_bottom
bottom-pos q m p = mul-pos (one-le-pow m q p) (factorial-pos m)

pub bottom-le-top : (q m x : ℕ) → exponential_bottom q m ≤ exponential_top q m x
unfolding exponential_top
bottom-le-top q m x = omega (arith, cleared-first q m x, sum-upto (cleared q m x) 0 (suc m) (omega arith))

pub top_pos : (q m x : ℕ) → 0 < q → 0 < exponential_top q m x
top_pos q m x p = le_trans (bottom-pos q m p) (bottom-le-top q m x)

pub top-zero : (q m : ℕ) → exponential_top q m 0 ≡ exponential_bottom q m
unfolding exponential_top
top-zero q m = sum-only (cleared q m 0) (suc m) 0 (omega arith) none ∙ cleared-first q m 0
  where
    none : (k : ℕ) → k < suc m → k ≢ 0 → cleared q m 0 k ≡ 0
    none zero l o = absurd (o refl)
    none (suc k) l o = cleared-none q m k

pub top-grows : (q m : ℕ) {x y : ℕ} → x ≤ y → exponential_top q m x ≤ exponential_top q m y
unfolding exponential_top
top-grows q m {x} {y} h = sum-le (cleared q m x) (cleared q m y) (suc m) (λ j l. cleared-grows q m j h)

-- ---- the terms as divided powers: cut off past m, where a cleared term means nothing

module _ (q m x : ℕ) where
  term : ℕ → ℕ
  term j = if j up_to m then cleared q m x j else 0

  inside : (j : ℕ) → j ≤ m → term j ≡ cleared q m x j
  unfolding term
  inside j h = rw (le-leb j m h)

  outside : (j : ℕ) → m < j → term j ≡ 0
  unfolding term
  outside j h = rw (lt-leb j m h)

  term-sum : sum term (suc m) ≡ exponential_top q m x
  unfolding exponential_top
  term-sum = sum-ext term (cleared q m x) (suc m) (λ j l. inside j (omega arith))

  term-first : term 0 ≡ exponential_bottom q m
  term-first = inside 0 (omega arith) ∙ cleared-first q m x

  term-last : term m ≡ x ^ m
  term-last = inside m (omega arith) ∙ cleared-last q m x

  step : (j : ℕ) → j < m → suc j * q * term (suc j) ≡ x * term j
  step j h = rw (inside (suc j) h, inside j (omega arith)) (cleared-step q m x j h)

  term-step≥ : Step≥ q x 0 m term
  term-step≥ j h = omega (arith, step j h)

  term-step≤ : Step≤ q x 0 term
  term-step≤ j =
      ⊎_elim (λ (h : j < m). omega (arith, step j h)) (λ (h : m ≤ j). rw (outside (suc j) (omega arith)) (omega arith)) (lt-or-ge j m)

-- ---- the laws

pub exponential-above : (q m a b : ℕ) → 0 < q
    → exponential_bottom q m * exponential_top q m (a + b) ≤ exponential_top q m a * exponential_top q m b
exponential-above q m a b pos =
    le_of_mul-le-mul_right {k = exponential_bottom q m}
    (omega (
      arith,
      simp (term-sum, term-first) at
          (sums-above q a b m pos (term q m a) (term q m b) (term q m (a + b))
          (term-step≥ q m a) (term-step≥ q m b) (term-step≤ q m (a + b))),
    ))
    (bottom-pos q m pos)

-- with an error of l / p of the last term, where a + b is at most l times q, and p + l at most m + 1
pub exponential-below : (q m a b l p : ℕ) → 0 < q → a + b ≤ l * q → p + l ≤ suc m
    → p * (exponential_top q m a * exponential_top q m b) ≤ exponential_bottom q m * (p * exponential_top q m (a + b) + l * (a + b) ^ m)
exponential-below q m a b l p pos h r =
    le_of_mul-le-mul_right {k = exponential_bottom q m}
    (omega (
      arith,
      simp (term-sum, term-first, term-last) at
          (sums-below q a b l p m pos h r (term q m a) (term q m b) (term q m (a + b))
          (term-step≤ q m a) (term-step≤ q m b) (term-step≥ q m (a + b))),
    ))
    (bottom-pos q m pos)

-- that error as a factor 1 + 1/k
pub exponential-close : (q m a b l p k : ℕ) → 0 < q → a + b ≤ l * q → p + l ≤ suc m → l ≤ p → 0 < p
    → k * (l * q) ^ m ≤ exponential_bottom q m
    → k * (exponential_top q m a * exponential_top q m b) ≤ suc k * (exponential_bottom q m * exponential_top q m (a + b))
exponential-close q m a b l p k pos h r o pos-p small =
    let last : k * (a + b) ^ m ≤ exponential_top q m (a + b) =
    le_trans (mul-le-mul_left k (pow-le-pow_left h m)) (le_trans small (bottom-le-top q m (a + b))) in
    le_of_mul-le-mul_left {k = p}
    (omega (
      arith,
      mul-le-mul_left k (exponential-below q m a b l p pos h r),
      mul-le-mul_left (l * exponential_bottom q m) last,
      mul-le-mul_right (exponential_bottom q m * exponential_top q m (a + b)) o,
    ))
    pos-p
