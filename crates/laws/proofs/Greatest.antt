-- Within a tolerance of a positive part, of the greater of two rationals, and of the greatest of many.
use Prim.Native.Nat.{ℕ, zero, suc, ◌+◌, ◌*◌, ◌≤◌, ◌<◌, max}
use mathlib.Core.Bool.{Bool, true, false}
use mathlib.Core.Logic.{⊎_elim}
use mathlib.Core.Path.{◌≡◌, refl}
use native.Mathlib.Nat.{le_of_mul-le-mul_right, mul-le-mul_right}
use native.Mathlib.Omega.{arith}
use lib.IntN.{ℤ, pos, ◌*ℤ◌}
use lib.Signed.{lt_z}
use Rattle.laws.specs.Integers.{up, down}
use Rattle.laws.specs.Ratio.{Ratio, positive, ◌≤ℚ◌, greater, greatest_ℚ, Within}
use Rattle.laws.specs.Sums.{greatest}
use Rattle.std.specs.Prelude.{if◌then◌else◌}
use Rattle.laws.proofs.Integers.{side, mul-up, mul-down}
use Rattle.laws.proofs.Order.{ints}
use Rattle.laws.proofs.Ratio.{within-is, within_of, within-nat, within-whole, within_wider}
use Rattle.laws.proofs.RatioOrder.{≤ℚ-is}
use Rattle.laws.proofs.Tests.{lt-or-ge}

pub within-positive : {t : ℕ} {z : ℤ} {q : Ratio} → Within t z q → Within t (pos (up z)) (positive q)
within-positive {t} {z} {q} h =
    let i = within-is h in
    let d = q.den in
    within-nat t (up z) (up q.num) d h.proper
    (omega (arith, i, side (z *ℤ pos d), mul-up z (pos d), mul-down z (pos d)))
    (omega (arith, i, side q.num))

-- what is near q is not far above an r that is at least q
up-to : {t a : ℕ} {q : Ratio} (r : Ratio) → Within t (pos a) q → q ≤ℚ r → a * r.den + down r.num ≤ up r.num + t * r.den
up-to {t} {a} {q} r h l =
    le_of_mul-le-mul_right {m = a * r.den + down r.num} {n = up r.num + t * r.den} {k = q.den}
    (omega (arith, mul-le-mul_right r.den (within-is h).0, ≤ℚ-is q r l))
    h.proper

-- so the greater of two numbers is near the greater rational
of_two : {t a b : ℕ} {q : Ratio} (r : Ratio) → Within t (pos a) q → Within t (pos b) r → q ≤ℚ r → Within t (pos (max a b)) r
of_two {t} {a} {b} {q} r h k l =
    let i = within-is k in
    let m : b ≤ max a b = omega arith in
    within_of {q = r} k.proper
    (⊎_elim
    (λ (o : a < b). let e : max a b ≡ b = omega arith in rw e i.0)
    (λ (o : b ≤ a). let e : max a b ≡ a = omega arith in rw e (omega (arith, up-to r h l)))
    (lt-or-ge a b))
    (omega (arith, i, mul-le-mul_right r.den m))

pub within-greater : {t a b : ℕ} {q r : Ratio} → Within t (pos a) q → Within t (pos b) r → Within t (pos (max a b)) (greater q r)
within-greater {t} {a} {b} {q} {r} h k = by (lt_z (q.num *ℤ pos r.den) (r.num *ℤ pos q.den)) refl
  where
    by : (c : Bool) → lt_z (q.num *ℤ pos r.den) (r.num *ℤ pos q.den) ≡ c → Within t (pos (max a b)) (if c then r else q)
    by true e =
        let l : q ≤ℚ r = omega ints in
        of_two r h k l
    by false e =
        let l : r ≤ℚ q = omega ints in
        let same : max b a ≡ max a b = omega arith in
        rw same at (of_two q k h l)

pub within-greatest : (t : ℕ) (f : ℕ → ℕ) (q : ℕ → Ratio) (n : ℕ) → ((i : ℕ) → 0 < i → i ≤ n → Within t (pos (f i)) (q i))
    → Within t (pos (greatest f n)) (greatest_ℚ q n)
unfolding greatest greatest_ℚ
within-greatest t f q zero h = within_wider (omega arith) (within-whole (pos 0))
within-greatest t f q (suc n) h =
    within-greater (within-greatest t f q n (λ i p l. h i p (omega arith))) (h (suc n) (omega arith) (omega arith))
