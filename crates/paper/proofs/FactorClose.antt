-- Every computed factor is within 26 billionths of the exact one.
use Prim.Native.Nat.{ℕ, zero, suc, ◌+◌, ◌*◌, ◌-◌, ◌/◌, ◌^◌, ◌≤◌, ◌<◌}
use mathlib.Core.Path.{◌≡◌, refl, sym, ap, ◌∙◌}
use native.Mathlib.Nat.{le_refl, le_trans, mul-le-mul_right, div-add-mod, div-div-eq-div-mul, pow-succ', mul_comm, div-eq_of_lt, div-mul-le_self}
use native.Mathlib.Omega.{arith}
use lib.Dec.{lit<, lit≤}
use lib.IntN.{ℤ, pos, negsuc, neg_ℤ}
use Rattle.laws.specs.Sums.{sum}
use Rattle.laws.specs.Nearest.{nearest}
use Rattle.laws.specs.Ratio.{Within}
use Rattle.laws.specs.Series.{factorial}
use Rattle.laws.proofs.Order.{le_is}
use Rattle.laws.proofs.Nearest.{Nearest, nearest-is}
use Rattle.laws.proofs.Ratio.{within-nat}
use Rattle.paper.specs.Scales.{exponent_scale, billion}
use Rattle.paper.specs.Series.{series_term, numerator, denominator, billion_over_e}
use Rattle.paper.specs.Factor.{entry, digit, after_digits, low_start, low_end, factor, InRange}
use Rattle.paper.specs.Exact.{exact_factor}
use Rattle.paper.proofs.SeriesLaws.{denominator-positive, denominator-least, numerator-positive, numerator-zero, product-least, product-most}
use Rattle.paper.proofs.FactorStep.{Quarters, Multiplies, step, entry-most, next-most, end}

-- ---- digits: what Y's first w come to

passed : ℕ → ℕ → ℕ
passed Y w = Y / 10 ^ (11 - w) * 10 ^ (11 - w)

passed_none : (Y : ℕ) → Y < 10 ^ 11 → passed Y 0 ≡ 0
unfolding passed
passed_none Y h = rw (div-eq_of_lt h)

passed-all : (Y : ℕ) → passed Y 11 ≡ Y
unfolding passed
passed-all Y = omega arith

passed-most : (Y w : ℕ) → passed Y w ≤ Y
unfolding passed
passed-most Y w = div-mul-le_self Y (10 ^ (11 - w))

passed-more : (Y w : ℕ) → w < 11 → passed Y (suc w) ≡ passed Y w + digit Y w * 10 ^ (10 - w)
unfolding passed digit
passed-more Y w l =
    let v = 10 ^ (10 - w) in
    let e : 11 - w ≡ suc (10 - w) = omega arith in
    let q : 11 - suc w ≡ 10 - w = omega arith in
    let p : 10 ^ (11 - w) ≡ v * 10 = ap (λ (n : ℕ). 10 ^ n) e ∙ pow-succ' 10 (10 - w) ∙ mul_comm 10 v in
    let d : Y / (10 ^ (11 - w)) ≡ Y / v / 10 = ap (λ (n : ℕ). Y / n) p ∙ sym (div-div-eq-div-mul Y v 10) in
    rw (q, d, p) (omega (arith, ap (λ (n : ℕ). n * v) (div-add-mod (Y / v) 10)))

-- ---- the product over the digits

multiplies : (a b : ℕ) → a + b ≤ 10 * exponent_scale → Multiplies (10 ^ 15) denominator (numerator a) (numerator b) (numerator (a + b))
multiplies a b h = record {
  positive = denominator-positive;
  left = denominator-least a;
  right = denominator-least b;
  least = product-least a b;
  most = product-most a b h;
}

entry-nearest : (w d : ℕ) → Nearest (billion * denominator) (numerator (d * 10 ^ (10 - w))) (entry w d)
unfolding entry billion_over_e
entry-nearest w d = nearest-is (billion * denominator) (numerator (d * 10 ^ (10 - w))) (numerator-positive (d * 10 ^ (10 - w)))

pub after-most : (s Y w : ℕ) → after_digits s Y w ≤ s
unfolding after_digits
after-most s Y zero = le_refl s
after-most s Y (suc w) =
    let B = digit Y w * 10 ^ (10 - w) in
    let v = after_digits s Y w in
    let t = entry w (digit Y w) in
    le_trans
    (next-most v t (nearest (v * t) billion) (entry-most denominator (numerator B) t denominator-positive (denominator-least B) (entry-nearest w (digit Y w)))
    (nearest-is (v * t) billion (lit< tt)))
    (after-most s Y w)

-- after w digits it is within 9 w quarters of the start over E
after-close : (s Y w : ℕ) → s ≤ low_start → Y < 10 ^ 11 → w ≤ 11
    → Quarters (9 * w) (s * denominator) (numerator (passed Y w)) (after_digits s Y w)
unfolding after_digits
after-close s Y zero hs h_y hw = rw (passed_none Y h_y, numerator-zero) (record { above = omega arith; below = omega arith })
after-close s Y (suc w) hs h_y hw =
    let A = passed Y w in
    let B = digit Y w * 10 ^ (10 - w) in
    let v = after_digits s Y w in
    let t = entry w (digit Y w) in
    let n = nearest (v * t) billion in
    let more : 9 * suc w ≡ 9 * w + 9 = omega arith in
    let joint : passed Y (suc w) ≡ A + B = passed-more Y w hw in
    let room : A + B ≤ 10 * exponent_scale = rw (← joint) (omega (arith, passed-most Y (suc w))) in
    let less : n ≤ s = after-most s Y (suc w) in
    rw (more, joint)
    (step (10 ^ 15) denominator (numerator A) (numerator B) (numerator (A + B)) s v t n (9 * w) (multiplies A B room) (omega arith)
    (le_trans (after-most s Y w) hs) (entry-nearest w (digit Y w)) (nearest-is (v * t) billion (lit< tt)) (after-close s Y w hs h_y (omega arith)))

after-all : (s Y : ℕ) → s ≤ low_start → Y < 10 ^ 11 → Quarters 99 (s * denominator) (numerator Y) (after_digits s Y 11)
after-all s Y hs h_y = rw (passed-all Y) at (after-close s Y 11 hs h_y (le_refl 11))

-- ---- the end of the eleven: quarters are a distance from an exact rational

quarters-within : (t k p q v : ℕ) → 0 < q → k ≤ 4 * t → Quarters k p q v → Within t (pos v) (record { num = pos p; den = q })
quarters-within t k p q v positive h w =
    within-nat t v p q positive (omega (arith, w.above, mul-le-mul_right q h)) (omega (arith, w.below, mul-le-mul_right q h))

-- the start below zero is the nearest to a billion times E(1.25)
pub start-nearest : low_start ≡ nearest (billion * numerator low_end) denominator
unfolding nearest denominator numerator sum series_term factorial
start-nearest = refl

-- below zero: Y counts up from -1.25, and the exact factor is a billion times E(1.25 - Y)
rising : (Y : ℕ) → Y ≤ low_end → Quarters 102 (billion * numerator (low_end - Y)) denominator (after_digits low_start Y 11)
rising Y h =
    let whole : Y + (low_end - Y) ≡ low_end = omega arith in
    let v = after_digits low_start Y 11 in
    end (10 ^ 15) denominator (numerator Y) (numerator (low_end - Y)) (numerator low_end) v
    (rw whole at (multiplies Y (low_end - Y) (omega arith)))
    (rw (← start-nearest) at (nearest-is (billion * numerator low_end) denominator denominator-positive))
    (omega (arith, after-most low_start Y 11))
    (after-all low_start Y (le_refl low_start) (omega arith))

-- ---- the theorems

pub factor-close : (X : ℤ) → InRange X → Within 26 (pos (factor X)) (exact_factor X)
unfolding factor exact_factor
factor-close (pos X) r =
    quarters-within 26 99 (billion * denominator) (numerator X) (after_digits billion X 11) (numerator-positive X) (lit≤ tt)
    (after-all billion X (lit≤ tt) (omega (arith, le_is (pos X) (pos 99999999999) r.high)))
factor-close (negsuc n) r =
    let h : suc n ≤ low_end = omega (arith, le_is (neg_ℤ (pos low_end)) (negsuc n) r.low) in
    let back : low_end - (low_end - suc n) ≡ suc n = omega arith in
    quarters-within 26 102 (billion * numerator (suc n)) denominator (after_digits low_start (low_end - suc n) 11) denominator-positive (lit≤ tt)
    (rw back at (rising (low_end - suc n) (omega arith)))

pub factor-at-most : (X : ℤ) → factor X ≤ 3490342957
unfolding factor
factor-at-most (pos X) = le_trans (after-most billion X 11) (lit≤ tt)
factor-at-most (negsuc n) = after-most low_start (low_end - suc n) 11

pub factor-zero : factor (pos 0) ≡ 1000000000
unfolding factor after_digits entry digit nearest denominator numerator billion_over_e sum series_term factorial
factor-zero = refl
