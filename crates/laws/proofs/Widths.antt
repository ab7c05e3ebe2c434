-- What the code asks of integers, at any width: that one fits, what its bits are, and what a test of its sign tells.
use Prim.Native.Nat.{ℕ, zero, suc, ◌+◌, ◌*◌, ◌/◌, ◌^◌, ◌≤◌, ◌<◌}
use mathlib.Core.Bool.{true, false}
use mathlib.Core.Path.{◌≡◌, sym, ap, ◌∙◌}
use native.Mathlib.Nat.{le_refl, le_trans, lt_of_le_of_lt, mul-le-mul, div-le_self}
use native.Mathlib.Omega.{arith}
use lib.Dec.{T, ltb, ltb→lt}
use lib.IntN.{ℤ, pos, negsuc, neg_ℤ, nat_abs, ◌+ℤ◌, ◌-ℤ◌, ◌*ℤ◌}
use lib.Signed.{mag, non_neg, lt_z, quot_z, rem_z, mag_rem}
use mir.Facts.{to_z-of_z}
use mir.Syntax.{Width, w64}
use mir.Val.{Fits, SFits, hbits, to_z, of_z}
use mir.ValLaws.{sfits_le}
use Rattle.laws.specs.Integers.{up, down}
use Rattle.laws.proofs.Integers.{abs_is, side, neg-up, neg-down, add-up, add-down, diff-up, diff-down, abs-add, abs_neg, abs-sub, abs-mul}
use Rattle.laws.proofs.Order.{lt_z-true, lt_z-false, below-zero, not-below-zero}

-- ---- a magnitude that fits

pub mag-le : (z : ℤ) → mag z ≤ nat_abs z
mag-le (pos n) = omega arith
mag-le (negsuc n) = omega arith

pub abs-le-mag : (z : ℤ) → nat_abs z ≤ suc (mag z)
abs-le-mag (pos n) = omega arith
abs-le-mag (negsuc n) = omega arith

pub sfits-abs : {w : Width} (z : ℤ) → nat_abs z < 2 ^ hbits w → SFits w z
sfits-abs z h = record { sfits = lt_of_le_of_lt (mag-le z) h }

pub abs-fits : {w : Width} (z : ℤ) → SFits w z → nat_abs z ≤ 2 ^ hbits w
abs-fits z f = omega (arith, abs-le-mag z, f.sfits)

-- a quotient and a remainder fit where the dividend does
mag-neg : (r n : ℕ) → r ≤ suc n → mag (neg_ℤ (pos r)) ≤ n
mag-neg zero n h = omega arith
mag-neg (suc r) n h = omega arith

mag-quot : (z : ℤ) (d : ℕ) → mag (quot_z z (pos d)) ≤ mag z
mag-quot (pos n) d = div-le_self n d
mag-quot (negsuc n) d = mag-neg (suc n / d) n (div-le_self (suc n) d)

pub quot_fits : {w : Width} (z : ℤ) (d : ℕ) → SFits w z → SFits w (quot_z z (pos d))
quot_fits z d f = sfits_le (mag-quot z d) f

pub rem-fits : {w : Width} (z d : ℤ) → SFits w z → SFits w (rem_z z d)
rem-fits z d f = sfits_le (mag_rem z d) f

-- ---- bits

-- of a call's result, `back w64 _ c.f.ok`, or of an element that was read, `back w64 _ c.x.given`
pub back : (w : Width) (z : ℤ) → mag z < 2 ^ hbits w → to_z w (of_z w z) ≡ z
back w z h = to_z-of_z {w = w} {z = z} (record { sfits = h })

-- a test `a == b` says that the bits are equal
pub bits-eq : {w : Width} {a b : ℤ} → SFits w a → SFits w b → of_z w a ≡ of_z w b → a ≡ b
bits-eq {w} f g e = sym (to_z-of_z f) ∙ ap (to_z w) e ∙ to_z-of_z g

-- ---- tests

-- a cast to an unsigned type asks this
pub nonneg_of : (z : ℤ) → down z ≡ 0 → T (non_neg z)
nonneg_of (pos n) e = tt
nonneg_of (negsuc n) e = absurd (omega arith)

-- the tests `z < -b` and `z > b` both failed
pub within-tests : (z : ℤ) (b : ℕ) → lt_z z (neg_ℤ (pos b)) ≡ false → lt_z (pos b) z ≡ false → nat_abs z ≤ b
within-tests z b h k =
    omega (arith, abs_is z, side z, lt_z-false z (neg_ℤ (pos b)) h, lt_z-false (pos b) z k, neg-up (pos b), neg-down (pos b))

-- a test against 0 as the code leaves it, of bits read back: so `search` finds it in a place's facts
pub test_below : {w : Width} (z : ℤ) → SFits w z → lt_z (to_z w (of_z w z)) (pos 0) ≡ true → up z ≡ 0
test_below z f e = below-zero z (rw (to_z-of_z f) at e)

pub test-not-below : {w : Width} (z : ℤ) → SFits w z → lt_z (to_z w (of_z w z)) (pos 0) ≡ false → down z ≡ 0
test-not-below z f e = not-below-zero z (rw (to_z-of_z f) at e)

-- ---- a bound as a record: z and b are inferred from a fact in hand, where `nat_abs z ≤ b` computes and shows neither

pub record Small (b : ℕ) (z : ℤ) : Type 0 where
  pub small : nat_abs z ≤ b

pub small_pos : (n : ℕ) → Small n (pos n)
small_pos n = record { small = le_refl n }

pub small-le : {m n : ℕ} {z : ℤ} → m ≤ n → Small m z → Small n z
small-le h s = record { small = le_trans s.small h }

pub small-add : {m n : ℕ} {a b : ℤ} → Small m a → Small n b → Small (m + n) (a +ℤ b)
small-add {m} {n} {a} {b} s t = record { small = omega (arith, s.small, t.small, abs-add a b) }

pub small-sub : {m n : ℕ} {a b : ℤ} → Small m a → Small n b → Small (m + n) (a -ℤ b)
small-sub {m} {n} {a} {b} s t = record { small = omega (arith, s.small, t.small, abs-sub a b) }

pub small-neg : {m : ℕ} {a : ℤ} → Small m a → Small m (neg_ℤ a)
small-neg {m} {a} s = record { small = omega (arith, s.small, abs_neg a) }

pub small_mul : {m n : ℕ} {a b : ℤ} → Small m a → Small n b → Small (m * n) (a *ℤ b)
small_mul {m} {n} {a} {b} s t = record { small = omega (arith, abs-mul a b, mul-le-mul s.small t.small) }

-- `small-fits tt s`, where the bound is written out
pub small-fits : {w : Width} {b : ℕ} {z : ℤ} → T (ltb b (2 ^ hbits w)) → Small b z → SFits w z
small-fits {w} {b} {z} t s = sfits-abs z (lt_of_le_of_lt s.small (ltb→lt b (2 ^ hbits w) t))

pub small-tests : (b : ℕ) {z : ℤ} → lt_z z (neg_ℤ (pos b)) ≡ false → lt_z (pos b) z ≡ false → Small b z
small-tests b {z} h k = record { small = within-tests z b h k }

-- ---- the magnitude of a number below zero, by way of the number after it, whose magnitude always fits

pub magnitude-fits : (z : ℤ) → SFits w64 z → Fits w64 (nat_abs z)
magnitude-fits z f = record { fits = omega (arith, abs-fits z f) }

-- what the code asks of `-(z + 1)` on its way, and what it comes to
pub record NextNegated (z : ℤ) : Type 0 where
  pub next_fits : SFits w64 (z +ℤ pos 1)
  pub negated_fits : SFits w64 (pos 0 -ℤ (z +ℤ pos 1))
  pub not-below : T (non_neg (pos 0 -ℤ (z +ℤ pos 1)))
  pub cast_fits : Fits w64 (nat_abs (pos 0 -ℤ (z +ℤ pos 1)))
  pub one_less : nat_abs (pos 0 -ℤ (z +ℤ pos 1)) + 1 ≡ nat_abs z

pub next-negated : (z : ℤ) → SFits w64 z → lt_z z (pos 0) ≡ true → NextNegated z
next-negated z f t =
    let next = z +ℤ pos 1 in
    let back = pos 0 -ℤ next in
    let below : up z < down z = omega (arith, lt_z-true z (pos 0) t) in
    let none : up next ≡ 0 = omega (arith, add-up z (pos 1)) in
    let some : down next + 1 ≡ down z = omega (arith, side z, add-down z (pos 1)) in
    let none-back : down back ≡ 0 = omega (arith, diff-down (pos 0) next) in
    let some_back : up back ≡ down next = omega (arith, diff-up (pos 0) next) in
    record {
      next_fits = sfits-abs next (omega (arith, abs_is next, abs_is z, abs-fits z f));
      negated_fits = sfits-abs back (omega (arith, abs_is back, abs_is z, abs-fits z f));
      not-below = nonneg_of back none-back;
      cast_fits = record { fits = omega (arith, abs_is back, abs_is z, abs-fits z f) };
      one_less = omega (arith, abs_is back, abs_is z, side z);
    }
