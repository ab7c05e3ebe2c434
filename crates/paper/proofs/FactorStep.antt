-- One digit of the factor, as inequalities of ℕ. An error is counted in quarters of a billionth: each digit adds at most nine.
-- d, a, b, c stand for `under` and for `over` at A, at B and at A + B; v is the product before the digit and n the one after it.
use Prim.Native.Nat.{ℕ, suc, ◌+◌, ◌*◌, ◌≤◌, ◌<◌}
use native.Mathlib.Nat.{mul-le-mul_left, mul-le-mul_right, le_of_mul-le-mul_left, le_of_mul-le-mul_right, mul-pos, lt_of_lt_of_le}
use native.Mathlib.Omega.{arith}
use Rattle.laws.proofs.Nearest.{Nearest}
use Rattle.paper.specs.Scales.{billion}
use Rattle.paper.specs.Factor.{low_start}

-- v is within k quarters of p / q
pub record Quarters (k p q v : ℕ) : Type 0 where
  pub above : 4 * (v * q) ≤ 4 * p + k * q
  pub below : 4 * p ≤ 4 * (v * q) + k * q

-- ---- the product after a digit against the one before it, over the digit's own E: t is the table entry

module _ (d b v t n : ℕ) (entry : Nearest (billion * d) b t) (next : Nearest (v * t) billion n) (small : v ≤ low_start) where
  next-above : 4 * (n * b) ≤ 4 * (v * d) + 9 * b
  next-above =
      omega (arith, mul-le-mul_right b next.low, mul-le-mul_left v entry.low, mul-le-mul_right b small)

  -- with a hundredth of a quarter to spare
  next-below : 400 * (v * d) ≤ 400 * (n * b) + 899 * b
  next-below =
      omega (arith, mul-le-mul_right b next.high, mul-le-mul_left v entry.high, mul-le-mul_right b small)

-- ---- E multiplies, but for one part in `many`

-- E(A) E(B) is at least E(A + B), and at most that and one part in `many` of it; no value of E is below 1
pub record Multiplies (many d a b c : ℕ) : Type 0 where
  pub positive : 0 < d
  pub left : d ≤ a
  pub right : d ≤ b
  pub least : d * c ≤ a * b
  pub most : many * (a * b) ≤ suc many * (d * c)

-- one part in `many` of something small goes into a hundredth of r
absorb : (many p g r h : ℕ) → 0 < many → many * p ≤ suc many * h → 100 * h ≤ 100 * g + 899 * r → 100 * g + 899 * r ≤ many * r → p ≤ g + 9 * r
absorb many p g r h m f e small = le_of_mul-le-mul_left {m = p} {n = g + 9 * r} {k = many} (omega (arith, mul-le-mul_left many e)) m

module _ (many d a b c : ℕ) (E : Multiplies many d a b c) (s v n k : ℕ) where
  step-above : 4 * (n * b) ≤ 4 * (v * d) + 9 * b → 4 * (v * a) ≤ 4 * (s * d) + k * a → 4 * (n * c) ≤ 4 * (s * d) + (k + 9) * c
  step-above next before =
      le_of_mul-le-mul_right {k = a * b}
      (omega (
        arith,
        mul-le-mul_right (a * c) next,
        mul-le-mul_right (d * c) before,
        mul-le-mul_left (4 * (s * d)) E.least,
        mul-le-mul_left (k * (a * c)) E.right,
      ))
      (mul-pos (lt_of_lt_of_le E.positive E.left) (lt_of_lt_of_le E.positive E.right))

  step-below : 400 * n + 100 * k + 899 ≤ many → 400 * (v * d) ≤ 400 * (n * b) + 899 * b → 4 * (s * d) ≤ 4 * (v * a) + k * a
      → 4 * (s * d) ≤ 4 * (n * c) + (k + 9) * c
  step-below room next before =
      le_of_mul-le-mul_right {k = b}
      (omega (
        arith,
        absorb many (4 * (s * d) * b) ((4 * n + k) * (b * c)) (b * c) ((4 * v + k) * (d * c)) (omega arith)
            (omega (arith, mul-le-mul_left (many * b) before, mul-le-mul_left (4 * v + k) E.most))
            (omega (arith, mul-le-mul_right c next, mul-le-mul_left (k * c) E.right))
            (omega (arith, mul-le-mul_right (b * c) room)),
      ))
      (lt_of_lt_of_le E.positive E.right)

-- what is within k quarters of s / E(A) before a digit is within k + 9 of s / E(A + B) after it
pub step : (many d a b c s v t n k : ℕ) → Multiplies many d a b c → 400 * n + 100 * k + 899 ≤ many → v ≤ low_start
    → Nearest (billion * d) b t → Nearest (v * t) billion n → Quarters k (s * d) a v → Quarters (k + 9) (s * d) c n
step many d a b c s v t n k E room small entry next before = record {
  above = step-above many d a b c E s v n k (next-above d b v t n entry next small) before.above;
  below = step-below many d a b c E s v n k room (next-below d b v t n entry next small) before.below;
}

-- ---- a product does not grow

pub entry-most : (d b t : ℕ) → 0 < d → d ≤ b → Nearest (billion * d) b t → t ≤ billion
entry-most d b t p h entry =
    let e : 2 * t ≤ 2 * billion + 1 = le_of_mul-le-mul_right {k = b} (omega (arith, entry.low, mul-le-mul_left (2 * billion) h)) (lt_of_lt_of_le p h) in
    omega arith

pub next-most : (v t n : ℕ) → t ≤ billion → Nearest (v * t) billion n → n ≤ v
next-most v t n h next = omega (arith, next.low, mul-le-mul_left v h)

-- ---- the end below zero: c, e, z stand for `over` at Y, at 1.25 less Y and at 1.25

module _ (many d c e z v : ℕ) (E : Multiplies many d c e z) (start : Nearest (billion * z) d low_start) where
  end-above : 4 * (v * c) ≤ 4 * (low_start * d) + 99 * c → 4 * (v * d) ≤ 4 * (billion * e) + 101 * d
  end-above product =
      le_of_mul-le-mul_right {k = c}
      (omega (
        arith,
        mul-le-mul_right d product,
        mul-le-mul_right d start.low,
        mul-le-mul_left (4 * billion) E.least,
        mul-le-mul_left (2 * d) E.left,
      ))
      (lt_of_lt_of_le E.positive E.left)

  end_below : 4 * v + 101 ≤ many → 4 * (low_start * d) ≤ 4 * (v * c) + 99 * c → 4 * (billion * e) ≤ 4 * (v * d) + 102 * d
  end_below room product =
      let bound : many * (4 * billion * e * c) ≤ suc many * ((4 * v + 101) * (d * c)) =
      omega (
        arith,
        mul-le-mul_left (4 * billion) E.most,
        mul-le-mul_left (suc many * d) product,
        mul-le-mul_left (2 * (suc many * d)) start.high,
        mul-le-mul_left (2 * (suc many * d)) E.left,
      )
      in
      let times : 4 * billion * e * many ≤ (4 * (v * d) + 102 * d) * many =
      le_of_mul-le-mul_right {k = c} (omega (arith, bound, mul-le-mul_right (d * c) room)) (lt_of_lt_of_le E.positive E.left)
      in
      omega (arith, le_of_mul-le-mul_right {k = many} times (omega arith))

pub end : (many d c e z v : ℕ) → Multiplies many d c e z → Nearest (billion * z) d low_start → 4 * v + 101 ≤ many
    → Quarters 99 (low_start * d) c v → Quarters 102 (billion * e) d v
end many d c e z v E start room product = record {
  above = omega (arith, end-above many d c e z v E start product.above);
  below = end_below many d c e z v E start room product.below;
}
