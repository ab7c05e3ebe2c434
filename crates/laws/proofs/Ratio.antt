-- An integer within a tolerance of a rational: the ways in and out, sums, multiples, and rounding.
use Prim.Native.Nat.{ℕ, zero, suc, ◌+◌, ◌*◌, ◌≤◌, ◌<◌}
use mathlib.Core.Path.{◌≡◌, sym, ap, ap₂, ◌∙◌}
use native.Mathlib.Nat.{le_refl, le_trans, mul_comm, mul-pos, one-mul, zero-mul, mul-le-mul_left, mul-le-mul_right, add-mul as add-mul-nat}
use native.Mathlib.Omega.{arith}
use lib.Dec.{lit<}
use lib.IntN.{ℤ, pos, negsuc, neg_ℤ, nat_abs, ◌+ℤ◌, ◌-ℤ◌, ◌*ℤ◌}
use Rattle.laws.specs.Integers.{up, down}
use Rattle.laws.specs.Nearest.{nearest_ℤ}
use Rattle.laws.specs.Ratio.{Ratio, whole, ◌+ℚ◌, ◌*ℚ◌, ◌/ℚ◌, ◌-ℚ◌, sum_ℚ, Within}
use Rattle.laws.specs.Sums.{sum, sum_ℤ}
use Rattle.laws.proofs.Integers.{abs_is, sub_is, diff-up, diff-down, mul-up, mul-down, abs-add, abs-mul}
use Rattle.laws.proofs.Nearest.{nearest_zero, near-close}
use Rattle.laws.proofs.Order.{ints}
use Rattle.laws.proofs.Ring.{add-mul, mul_assoc, sub-mul, mul-sub, sub-add-sub, sub-through}
use Rattle.laws.proofs.Sums.{pos_sum}

-- ---- in and out: two orders of naturals, which omega reads

pub within-is : {t : ℕ} {z : ℤ} {q : Ratio} → Within t z q
    → (up z * q.den + down q.num ≤ down z * q.den + up q.num + t * q.den)
    × (down z * q.den + up q.num ≤ up z * q.den + down q.num + t * q.den)
within-is {t} {z} {q} h =
    let x = z *ℤ pos q.den in
    omega (arith, h.near, abs_is (x -ℤ q.num), sub_is x q.num, mul-up z (pos q.den), mul-down z (pos q.den))

pub within_of : {t : ℕ} {z : ℤ} {q : Ratio} → 0 < q.den
    → up z * q.den + down q.num ≤ down z * q.den + up q.num + t * q.den
    → down z * q.den + up q.num ≤ up z * q.den + down q.num + t * q.den → Within t z q
within_of {t} {z} {q} p h k =
    let x = z *ℤ pos q.den in
    record {
      proper = p;
      near = omega (
        arith,
        abs_is (x -ℤ q.num),
        diff-up x q.num,
        diff-down x q.num,
        mul-up z (pos q.den),
        mul-down z (pos q.den),
      );
    }

pub within-nat : (t c n e : ℕ) → 0 < e → c * e ≤ n + t * e → n ≤ c * e + t * e → Within t (pos c) (record { num = pos n; den = e })
within-nat t c n e p h k = within_of p (omega arith) (omega arith)

pub within-nat-out : {t c n e : ℕ} → Within t (pos c) (record { num = pos n; den = e }) → (c * e ≤ n + t * e) × (n ≤ c * e + t * e)
within-nat-out h = omega (arith, within-is h)

pub within-whole : (z : ℤ) → Within 0 z (whole z)
within-whole z = within_of {q = whole z} (lit< tt) (omega arith) (omega arith)

pub within_wider : {s t : ℕ} {z : ℤ} {q : Ratio} → s ≤ t → Within s z q → Within t z q
within_wider {q = q} l h = record { proper = h.proper; near = le_trans h.near (mul-le-mul_right q.den l) }

pub within-equal : {z : ℤ} {q : Ratio} → Within 0 z q → z *ℤ pos q.den ≡ q.num
within-equal {z} {q} h =
    let x = z *ℤ pos q.den in
    omega (ints, h.near, abs_is (x -ℤ q.num), sub_is x q.num)

-- ---- sums and multiples

split-sum : (a b n m : ℤ) (d e : ℕ)
    → (a +ℤ b) *ℤ pos (d * e) -ℤ (n *ℤ pos e +ℤ m *ℤ pos d) ≡ (a *ℤ pos d -ℤ n) *ℤ pos e +ℤ (b *ℤ pos e -ℤ m) *ℤ pos d
split-sum a b n m d e =
    rw (add-mul a b (pos (d * e)), sub-add-sub (a *ℤ pos (d * e)) (b *ℤ pos (d * e)) (n *ℤ pos e) (m *ℤ pos d))
    (ap₂ ◌+ℤ◌ (taken_out a n d e) (rw (mul_comm d e) (taken_out b m e d)))
  where
    taken_out : (x y : ℤ) (j k : ℕ) → x *ℤ pos (j * k) -ℤ y *ℤ pos k ≡ (x *ℤ pos j -ℤ y) *ℤ pos k
    taken_out x y j k =
        ap (λ (z : ℤ). z -ℤ y *ℤ pos k) (sym (mul_assoc x (pos j) (pos k))) ∙ sym (sub-mul (x *ℤ pos j) y (pos k))

pub within-add : {s t : ℕ} {a b : ℤ} {q r : Ratio} → Within s a q → Within t b r → Within (s + t) (a +ℤ b) (q +ℚ r)
within-add {s} {t} {a} {b} {q} {r} h k =
    let x = a *ℤ pos q.den -ℤ q.num in
    let y = b *ℤ pos r.den -ℤ r.num in
    record {
      proper = mul-pos h.proper k.proper;
      near = rw (split-sum a b q.num r.num q.den r.den)
          (omega (
            arith,
            abs-add (x *ℤ pos r.den) (y *ℤ pos q.den),
            abs-mul x (pos r.den),
            abs-mul y (pos q.den),
            mul-le-mul_right r.den h.near,
            mul-le-mul_right q.den k.near,
          ));
    }

pub within-times : {t : ℕ} {a : ℤ} {q : Ratio} (f : ℤ) → Within t a q → Within (nat_abs f * t) (f *ℤ a) (f *ℚ q)
within-times {t} {a} {q} f h =
    record {
      proper = h.proper;
      near = rw (mul_assoc f a (pos q.den), ← mul-sub f (a *ℤ pos q.den) q.num)
          (omega (arith, abs-mul f (a *ℤ pos q.den -ℤ q.num), mul-le-mul_left (nat_abs f) h.near));
    }

neg-one : (z : ℤ) → negsuc 0 *ℤ z ≡ neg_ℤ z
neg-one (pos n) = rw one-mul
neg-one (negsuc n) = rw one-mul

pub within-sub : {s t : ℕ} {a b : ℤ} {q r : Ratio} → Within s a q → Within t b r → Within (s + t) (a -ℤ b) (q -ℚ r)
within-sub {s} {t} {a} {b} h k = rw (one-mul t, neg-one b) at (within-add h (within-times (negsuc 0) k))

pub within-sum : (t : ℕ → ℕ) (f : ℕ → ℤ) (q : ℕ → Ratio) (n : ℕ) → ((k : ℕ) → k < n → Within (t k) (f k) (q k))
    → Within (sum t n) (sum_ℤ f n) (sum_ℚ q n)
unfolding sum sum_ℤ sum_ℚ
within-sum t f q zero h = within-whole (pos 0)
within-sum t f q (suc n) h = within-add (within-sum t f q n (λ k l. h k (omega arith))) (h n (omega arith))

pub within-sum-nat : (t f : ℕ → ℕ) (q : ℕ → Ratio) (n : ℕ) → ((k : ℕ) → k < n → Within (t k) (pos (f k)) (q k))
    → Within (sum t n) (pos (sum f n)) (sum_ℚ q n)
within-sum-nat t f q n h = rw (pos_sum f n) at (within-sum t (λ k. pos (f k)) q n h)

-- a weighted sum of numbers each within t is within t times the weights' magnitudes
pub sum-within : (t : ℕ) (weight value : ℕ → ℤ) (exact : ℕ → Ratio) (n : ℕ) → ((i : ℕ) → i < n → Within t (value i) (exact i))
    → Within (sum (λ i. nat_abs (weight i)) n * t) (sum_ℤ (λ i. weight i *ℤ value i) n) (sum_ℚ (λ i. weight i *ℚ exact i) n)
unfolding sum sum_ℤ sum_ℚ
sum-within t weight value exact zero h = rw zero-mul (within-whole (pos 0))
sum-within t weight value exact (suc n) h =
    rw add-mul-nat (within-add (sum-within t weight value exact n (λ i l. h i (omega arith))) (within-times (weight n) (h n (omega arith))))

pub sum-proper : (q : ℕ → Ratio) (n : ℕ) → ((i : ℕ) → i < n → 0 < (q i).den) → 0 < (sum_ℚ q n).den
unfolding sum_ℚ
sum-proper q zero h = le_refl 1
sum-proper q (suc n) h = mul-pos (sum-proper q n (λ i l. h i (omega arith))) (h n (omega arith))

-- ---- rounding: the result is within u where t and the half that rounding may cost are at most u times the divisor

apart : (r z n : ℤ) (d b : ℕ) → r *ℤ pos (d * b) -ℤ n ≡ (r *ℤ pos b -ℤ z) *ℤ pos d +ℤ (z *ℤ pos d -ℤ n)
apart r z n d b =
    rw (mul_comm d b, ← mul_assoc r (pos b) (pos d), sub-mul (r *ℤ pos b) z (pos d)) (sub-through (r *ℤ pos b *ℤ pos d) (z *ℤ pos d) n)

pub within-over : {t u : ℕ} {z : ℤ} {q : Ratio} (b : ℕ) → 0 < b → 2 * t + b ≤ 2 * (u * b) → Within t z q → Within u (nearest_ℤ z b) (q /ℚ b)
within-over {t} {u} {z} {q} b p fits h =
    let d = q.den in
    let x = nearest_ℤ z b *ℤ pos b in
    let y = z *ℤ pos d -ℤ q.num in
    record {
      proper = mul-pos h.proper p;
      near = rw (apart (nearest_ℤ z b) z q.num d b)
          (omega (
            arith,
            h.near,
            abs-add ((x -ℤ z) *ℤ pos d) y,
            abs-mul (x -ℤ z) (pos d),
            mul-le-mul_right d (near-close z b p),
            mul-le-mul_right d fits,
          ));
    }

pub within-nil : {q : Ratio} (b : ℕ) → 0 < b → Within 0 (pos 0) q → Within 0 (nearest_ℤ (pos 0) b) (q /ℚ b)
unfolding nearest_ℤ
within-nil {q} b p h =
    let i = within-is h in
    rw (nearest_zero b) (within_of {q = q /ℚ b} (mul-pos h.proper p) (omega (arith, i)) (omega (arith, i)))
