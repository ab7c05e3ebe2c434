-- The order of rationals with positive denominators, and what a number within a tolerance of one tells of its order.
use Prim.Native.Nat.{ℕ, ◌+◌, ◌*◌, ◌≤◌, ◌<◌}
use mathlib.Core.Path.{◌≡◌, ap}
use native.Mathlib.Nat.{le_of_mul-le-mul_right, lt_of_mul-lt-mul_right, mul-le-mul_left, mul-le-mul_right}
use native.Mathlib.Omega.{arith}
use lib.IntN.{ℤ, pos, *ℤ_comm, ◌+ℤ◌, ◌-ℤ◌, ◌*ℤ◌}
use lib.Signed.{◌≤ℤ◌, ◌<ℤ◌}
use Rattle.laws.specs.Integers.{up, down}
use Rattle.laws.specs.Ratio.{Ratio, whole, ◌*ℚ◌, ◌≤ℚ◌, ◌<ℚ◌, Within}
use Rattle.laws.proofs.Integers.{add_is, sub_is, mul-up, mul-down}
use Rattle.laws.proofs.Order.{le_is, le_of, lt-is, lt_of, mul-≤, mul-<}
use Rattle.laws.proofs.Ratio.{within-is}
use Rattle.laws.proofs.Ring.{mul_assoc}

-- ---- as an order of naturals, which omega reads

module _ (q r : Ratio) where
  left : up (q.num *ℤ pos r.den) + down (r.num *ℤ pos q.den) ≡ up q.num * r.den + down r.num * q.den
  left = omega (arith, mul-up q.num (pos r.den), mul-down r.num (pos q.den))

  right : down (q.num *ℤ pos r.den) + up (r.num *ℤ pos q.den) ≡ down q.num * r.den + up r.num * q.den
  right = omega (arith, mul-down q.num (pos r.den), mul-up r.num (pos q.den))

  pub ≤ℚ-is : q ≤ℚ r → up q.num * r.den + down r.num * q.den ≤ down q.num * r.den + up r.num * q.den
  ≤ℚ-is h = rw (left, right) at (le_is (q.num *ℤ pos r.den) (r.num *ℤ pos q.den) h)

  pub ≤ℚ-of : up q.num * r.den + down r.num * q.den ≤ down q.num * r.den + up r.num * q.den → q ≤ℚ r
  ≤ℚ-of h = le_of (q.num *ℤ pos r.den) (r.num *ℤ pos q.den) (rw (left, right) h)

  pub <ℚ-is : q <ℚ r → up q.num * r.den + down r.num * q.den < down q.num * r.den + up r.num * q.den
  <ℚ-is h = rw (left, right) at (lt-is (q.num *ℤ pos r.den) (r.num *ℤ pos q.den) h)

  pub <ℚ-of : up q.num * r.den + down r.num * q.den < down q.num * r.den + up r.num * q.den → q <ℚ r
  <ℚ-of h = lt_of (q.num *ℤ pos r.den) (r.num *ℤ pos q.den) (rw (left, right) h)

-- ---- laws

module _ (q r s : Ratio) where
  pub ≤ℚ-trans : 0 < r.den → q ≤ℚ r → r ≤ℚ s → q ≤ℚ s
  ≤ℚ-trans p h k =
      ≤ℚ-of q s
      (le_of_mul-le-mul_right {k = r.den}
      (omega (arith, mul-le-mul_right s.den (≤ℚ-is q r h), mul-le-mul_right q.den (≤ℚ-is r s k)))
      p)

  pub <ℚ-≤ℚ-trans : 0 < s.den → q <ℚ r → r ≤ℚ s → q <ℚ s
  <ℚ-≤ℚ-trans p h k =
      <ℚ-of q s
      (lt_of_mul-lt-mul_right r.den
      (omega (arith, mul-le-mul_right s.den (<ℚ-is q r h), mul-le-mul_right q.den (≤ℚ-is r s k))))

  pub ≤ℚ-<ℚ-trans : 0 < q.den → q ≤ℚ r → r <ℚ s → q <ℚ s
  ≤ℚ-<ℚ-trans p h k =
      <ℚ-of q s
      (lt_of_mul-lt-mul_right r.den
      (omega (arith, mul-le-mul_right s.den (≤ℚ-is q r h), mul-le-mul_right q.den (<ℚ-is r s k))))

pub whole-≤ : (a b : ℤ) → a ≤ℤ b → whole a ≤ℚ whole b
whole-≤ a b h = mul-≤ a b 1 h

pub whole-< : (a b : ℤ) → a <ℤ b → whole a <ℚ whole b
whole-< a b h = mul-< a b 1 (omega arith) h

-- a positive multiple keeps the order: the factor comes out of both sides
module _ (n : ℕ) (q r : Ratio) where
  out : (a : ℤ) (d : ℕ) → pos n *ℤ a *ℤ pos d ≡ a *ℤ pos d *ℤ pos n
  out a d = rw (mul_assoc (pos n) a (pos d)) (*ℤ_comm (pos n) (a *ℤ pos d))

  pub times-≤ : q ≤ℚ r → (pos n *ℚ q) ≤ℚ (pos n *ℚ r)
  times-≤ h = rw (out q.num r.den, out r.num q.den) (mul-≤ (q.num *ℤ pos r.den) (r.num *ℤ pos q.den) n h)

  pub times-< : 0 < n → q <ℚ r → (pos n *ℚ q) <ℚ (pos n *ℚ r)
  times-< p h = rw (out q.num r.den, out r.num q.den) (mul-< (q.num *ℤ pos r.den) (r.num *ℤ pos q.den) n p h)

-- ---- a number near a rational

pub within-above : {t : ℕ} {z : ℤ} {q : Ratio} → Within t z q → (q ≤ℚ whole (z +ℤ pos t)) × (whole (z -ℤ pos t) ≤ℚ q)
within-above {t} {z} {q} h =
    let i = within-is h in (
      ≤ℚ-of q (whole (z +ℤ pos t)) (omega (arith, i, ap (λ (x : ℕ). x * q.den) (add_is z (pos t)))),
      ≤ℚ-of (whole (z -ℤ pos t)) q (omega (arith, i, ap (λ (x : ℕ). x * q.den) (sub_is z (pos t)))),
    )

-- k times what is within u of m: surely above a, and surely not
module _ {u m : ℕ} {q : Ratio} (k a : ℕ) (h : Within u (pos m) q) where
  pub within-exceeds : a + k * u < k * m → whole (pos a) <ℚ (pos k *ℚ q)
  within-exceeds l =
      <ℚ-of (whole (pos a)) (pos k *ℚ q)
      (omega (
        arith,
        h.proper,
        mul-le-mul_left k (within-is h).0,
        mul-le-mul_right q.den l,
        mul-up (pos k) q.num,
        mul-down (pos k) q.num,
      ))

  pub within-stays : k * (m + u) ≤ a → (pos k *ℚ q) ≤ℚ whole (pos a)
  within-stays l =
      ≤ℚ-of (pos k *ℚ q) (whole (pos a))
      (omega (
        arith,
        mul-le-mul_left k (within-is h).1,
        mul-le-mul_right q.den l,
        mul-up (pos k) q.num,
        mul-down (pos k) q.num,
      ))
