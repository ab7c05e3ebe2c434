-- Sequences of divided powers, a^j / (q^j j!): a step from a term to the next is said by an inequality, with no division.
-- The product of two such is one for the sum of their bases; this stands in the place of the binomial theorem.
use Prim.Native.Nat.{ℕ, zero, suc, ◌+◌, ◌*◌, ◌≤◌, ◌<◌}
use mathlib.Core.Path.{◌≡◌}
use native.Mathlib.Nat.{le_refl, le_trans, zero-add, suc-add, mul-le-mul_left, mul-le-mul_right, mul-pos, le_of_mul-le-mul_left}
use native.Mathlib.Omega.{arith}
use Rattle.laws.specs.Sums.{sum}
use Rattle.laws.proofs.Sequences.{shift, product, product-in, product-out, sum-compare}

-- each term is at most the one before it, times a, over (s + j + 1) q
abbrev pub Step≤ : ℕ → ℕ → ℕ → (ℕ → ℕ) → Type 0
Step≤ q a s f = (j : ℕ) → (s + suc j) * q * f (suc j) ≤ a * f j

-- each of the terms 1 to n is at least that
abbrev pub Step≥ : ℕ → ℕ → ℕ → ℕ → (ℕ → ℕ) → Type 0
Step≥ q a s n f = (j : ℕ) → j < n → a * f j ≤ (s + suc j) * q * f (suc j)

-- ---- the product

module _ (q a b : ℕ) (g : ℕ → ℕ) where
  product-at≤ : Step≤ q b 0 g → (n s : ℕ) (f : ℕ → ℕ) → Step≤ q a s f
      → (s + suc n) * q * product f g (suc n) ≤ s * q * (f 0 * g (suc n)) + (a + b) * product f g n
  unfolding product
  product-at≤ hg zero s f hf = omega (arith, mul-le-mul_right (g 0) (hf 0), mul-le-mul_left (f 0) (hg 0))
  product-at≤ hg (suc n) s f hf =
      omega (
        arith,
        product-at≤ hg n (suc s) (shift f) (λ j. omega (arith, hf (suc j))),
        mul-le-mul_right (g (suc n)) (hf 0),
        mul-le-mul_left (f 0) (hg (suc n)),
      )

  pub product-step≤ : (f : ℕ → ℕ) → Step≤ q a 0 f → Step≤ q b 0 g → Step≤ q (a + b) 0 (product f g)
  product-step≤ f hf hg n = omega (arith, product-at≤ hg n 0 f hf)

  product-at≥ : (n s : ℕ) (f : ℕ → ℕ) → Step≥ q b 0 (suc n) g → Step≥ q a s (suc n) f
      → s * q * (f 0 * g (suc n)) + (a + b) * product f g n ≤ (s + suc n) * q * product f g (suc n)
  unfolding product
  product-at≥ zero s f hg hf = omega (arith, mul-le-mul_right (g 0) (hf 0 (omega arith)), mul-le-mul_left (f 0) (hg 0 (omega arith)))
  product-at≥ (suc n) s f hg hf =
      omega (
        arith,
        product-at≥ n (suc s) (shift f) (λ j l. hg j (omega arith)) (λ j l. omega (arith, hf (suc j) (omega arith))),
        mul-le-mul_right (g (suc n)) (hf 0 (omega arith)),
        mul-le-mul_left (f 0) (hg (suc n) (omega arith)),
      )

  pub product-step≥ : (n : ℕ) (f : ℕ → ℕ) → Step≥ q a 0 n f → Step≥ q b 0 n g → Step≥ q (a + b) 0 n (product f g)
  product-step≥ n f hf hg j l = omega (arith, product-at≥ j 0 f (λ i o. hg i (omega arith)) (λ i o. hf i (omega arith)))

-- a sequence with the lesser steps stays below one with the greater, where both are made alike at 0
pub compare-at : (q a n : ℕ) → 0 < q → (f g : ℕ → ℕ) → Step≤ q a 0 f → Step≥ q a 0 n g → (j : ℕ) → j ≤ n → f j * g 0 ≤ g j * f 0
compare-at q a n p f g hf hg zero l = omega arith
compare-at q a n p f g hf hg (suc j) l =
    le_of_mul-le-mul_left {k = suc j * q}
    (omega (
      arith,
      mul-le-mul_right (g 0) (hf j),
      mul-le-mul_right (f 0) (hg j (omega arith)),
      mul-le-mul_left a (compare-at q a n p f g hf hg j (omega arith)),
    ))
    (mul-pos (omega arith) p)

-- ---- the sums, up to the term m: f and g for a and b, h for a + b

pub sums-above : (q a b m : ℕ) → 0 < q → (f g h : ℕ → ℕ) → Step≥ q a 0 m f → Step≥ q b 0 m g → Step≤ q (a + b) 0 h
    → sum h (suc m) * (f 0 * g 0) ≤ sum f (suc m) * sum g (suc m) * h 0
unfolding product
sums-above q a b m p f g h hf hg hh =
    le_trans
    (sum-compare (f 0 * g 0) (h 0) h (product f g) (suc m)
    (λ j l. compare-at q (a + b) m p h (product f g) hh (product-step≥ q a b g m f hf hg) j (omega arith)))
    (mul-le-mul_right (h 0) (product-in f g (suc m)))

-- past m the terms of c fall by l over p + l at least, so those that follow weigh at most l over p of the term at m
pub tail : (q a l p m : ℕ) → 0 < q → a ≤ l * q → p + l ≤ suc m → (c : ℕ → ℕ) → Step≤ q a 0 c
    → (k : ℕ) → p * sum c (suc (k + m)) + l * c (k + m) ≤ p * sum c (suc m) + l * c m
tail q a l p m hq ha hp c hc zero = rw zero-add (le_refl (p * sum c (suc m) + l * c m))
tail q a l p m hq ha hp c hc (suc k) = rw suc-add (more (tail q a l p m hq ha hp c hc k))
  where
    falls : (n : ℕ) → m ≤ n → (p + l) * c (suc n) ≤ l * c n
    falls n h =
        le_trans (mul-le-mul_right (c (suc n)) (omega arith))
        (le_of_mul-le-mul_left {m = suc n * c (suc n)} {n = l * c n} {k = q} (omega (arith, hc n, mul-le-mul_right (c n) ha)) hq)

    more : p * sum c (suc (k + m)) + l * c (k + m) ≤ p * sum c (suc m) + l * c m
        → p * sum c (suc (suc (k + m))) + l * c (suc (k + m)) ≤ p * sum c (suc m) + l * c m
    more h = unfold sum in omega (arith, h, falls (k + m) (omega arith))

pub sums-below : (q a b l p m : ℕ) → 0 < q → a + b ≤ l * q → p + l ≤ suc m → (f g h : ℕ → ℕ)
    → Step≤ q a 0 f → Step≤ q b 0 g → Step≥ q (a + b) 0 m h
    → p * (sum f (suc m) * sum g (suc m)) * h 0 ≤ (p * sum h (suc m) + l * h m) * (f 0 * g 0)
unfolding product
sums-below q a b l p m hq ha hp f g h hf hg hh =
    omega (
      arith,
      mul-le-mul_right (h 0) (mul-le-mul_left p square),
      mul-le-mul_right (h 0) (tail q (a + b) l p m hq ha hp (product f g) steps (suc m)),
      mul-le-mul_left p (sum-compare (h 0) (f 0 * g 0) (product f g) h (suc m) (λ j o. each j (omega arith))),
      mul-le-mul_left l (each m (le_refl m)),
    )
  where
    steps : Step≤ q (a + b) 0 (product f g)
    steps = product-step≤ q a b g f hf hg

    each : (j : ℕ) → j ≤ m → product f g j * h 0 ≤ h j * (f 0 * g 0)
    each = compare-at q (a + b) m hq (product f g) h steps hh

    square : sum f (suc m) * sum g (suc m) ≤ sum (product f g) (suc (suc m + m))
    square =
        let e : suc m + suc m ≡ suc (suc m + m) = omega arith in
        rw e at (product-out f g (suc m) (suc m))
