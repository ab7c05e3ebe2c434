-- The binary digits of masks: of a union, an intersection, a complement, a power of two; and the lowest digit that is set.
use Prim.Native.Nat.{ℕ, zero, suc, ◌+◌, ◌-◌, ◌/◌, ◌%◌, ◌^◌, ◌≤◌, ◌<◌, min, max}
use mathlib.Core.Bool.{Bool, true, false, not, ◌&&◌, ◌||◌}
use mathlib.Core.Path.{◌≡◌, refl, sym, ap, ap₂, ◌∙◌}
use native.Mathlib.Nat.{add-zero, add-suc, zero-add, suc-add, pow-suc, pow-succ', div-one, div-div-eq-div-mul}
use native.Mathlib.Omega.{arith}
use lib.Bits.{bit_and, bit_or, and_step, or_step, or_lt}
use lib.Count.{count_trailing_zeros, under}
use lib.Dec.{eqb, eqb-zero-suc, eqb-suc-zero, eqb-suc-suc}
use lib.Pow.{pow-lt}
use Rattle.laws.specs.Digits.{bit, has}
use Rattle.std.specs.Prelude.{if◌then◌else◌}
use Rattle.laws.specs.Tests.{◌is◌, first}

-- ---- a digit as a number

pub bit-lt : (m i : ℕ) → bit m i < 2
unfolding bit
bit-lt m zero = omega arith
bit-lt m (suc i) = bit-lt (m / 2) i

pub zero_bit : (i : ℕ) → bit 0 i ≡ 0
unfolding bit
zero_bit zero = refl
zero_bit (suc i) = zero_bit i

pub and-bit : (a b i : ℕ) → bit (bit_and a b) i ≡ min (bit a i) (bit b i)
unfolding bit
and-bit a b zero = omega (arith, and_step a b)
and-bit a b (suc i) =
    let h : bit_and a b / 2 ≡ bit_and (a / 2) (b / 2) = omega (arith, and_step a b) in
    rw h (and-bit (a / 2) (b / 2) i)

pub or-bit : (a b i : ℕ) → bit (bit_or a b) i ≡ max (bit a i) (bit b i)
unfolding bit
or-bit a b zero = omega (arith, or_step a b)
or-bit a b (suc i) =
    let h : bit_or a b / 2 ≡ bit_or (a / 2) (b / 2) = omega (arith, or_step a b) in
    rw h (or-bit (a / 2) (b / 2) i)

-- the complement at k digits
pub not-bit : (k a i : ℕ) → a < 2 ^ k → i < k → bit (2 ^ k - 1 - a) i ≡ 1 - bit a i
unfolding bit
not-bit zero a i h l = absurd (omega arith)
not-bit (suc k) a zero h l = omega (arith, pow-suc 2 k)
not-bit (suc k) a (suc i) h l =
    let e : (2 ^ suc k - 1 - a) / 2 ≡ 2 ^ k - 1 - a / 2 = omega (arith, pow-suc 2 k) in
    let f : a / 2 < 2 ^ k = omega (arith, pow-suc 2 k) in
    let g : i < k = omega arith in
    rw e (not-bit k (a / 2) i f g)

pub power-bit : (j i : ℕ) → bit (2 ^ j) i ≡ (if j is i then 1 else 0)
unfolding bit
power-bit zero zero = refl
power-bit zero (suc i) = rw eqb-zero-suc (zero_bit i)
power-bit (suc j) zero = rw eqb-suc-zero (omega (arith, pow-suc 2 j))
power-bit (suc j) (suc i) =
    let h : 2 ^ suc j / 2 ≡ 2 ^ j = omega (arith, pow-suc 2 j) in
    rw (h, eqb-suc-suc j i) (power-bit j i)

-- by a shift
pub bit_shifted : (m i : ℕ) → bit m i ≡ m / 2 ^ i % 2
unfolding bit
bit_shifted m zero = ap (λ (x : ℕ). x % 2) (sym (div-one m))
bit_shifted m (suc i) = bit_shifted (m / 2) i ∙ ap (λ (x : ℕ). x % 2) (div-div-eq-div-mul m 2 (2 ^ i) ∙ ap (λ (x : ℕ). m / x) (sym (pow-succ' 2 i)))

-- ---- a digit as a test

-- a digit is what its test says, so that a law of digits is one of four cases of two tests
digit : (x : ℕ) → x < 2 → x ≡ (if eqb x 1 then 1 else 0)
digit zero h = refl
digit (suc zero) h = refl
digit (suc (suc x)) h = absurd (omega arith)

bit_is : (m i : ℕ) → bit m i ≡ (if has m i then 1 else 0)
unfolding has
bit_is m i = digit (bit m i) (bit-lt m i)

pub has-none : (i : ℕ) → has 0 i ≡ false
unfolding has
has-none i = rw (zero_bit i)

pub has-power : (j i : ℕ) → has (2 ^ j) i ≡ j is i
unfolding has
has-power j i = rw (power-bit j i) (one-if (j is i))
  where
    one-if : (b : Bool) → eqb (if b then 1 else 0) 1 ≡ b
    one-if true = refl
    one-if false = refl

pub has-or : (a b i : ℕ) → has (bit_or a b) i ≡ has a i || has b i
unfolding has
has-or a b i = ap (λ (x : ℕ). eqb x 1) (or-bit a b i ∙ ap₂ max (bit_is a i) (bit_is b i)) ∙ by (has a i) (has b i)
  where
    by : (x y : Bool) → eqb (max (if x then 1 else 0) (if y then 1 else 0)) 1 ≡ x || y
    by true true = refl
    by true false = refl
    by false true = refl
    by false false = refl

pub has-and : (a b i : ℕ) → has (bit_and a b) i ≡ has a i && has b i
unfolding has
has-and a b i = ap (λ (x : ℕ). eqb x 1) (and-bit a b i ∙ ap₂ min (bit_is a i) (bit_is b i)) ∙ by (has a i) (has b i)
  where
    by : (x y : Bool) → eqb (min (if x then 1 else 0) (if y then 1 else 0)) 1 ≡ x && y
    by true true = refl
    by true false = refl
    by false true = refl
    by false false = refl

pub has-not : (k a i : ℕ) → a < 2 ^ k → i < k → has (2 ^ k - 1 - a) i ≡ not (has a i)
unfolding has
has-not k a i h l = ap (λ (x : ℕ). eqb x 1) (not-bit k a i h l ∙ ap (λ (x : ℕ). 1 - x) (bit_is a i)) ∙ by (has a i)
  where
    by : (x : Bool) → eqb (1 - (if x then 1 else 0)) 1 ≡ not x
    by true = refl
    by false = refl

-- ---- sets

-- one member more
pub has-set : (m j i : ℕ) → has (bit_or m (2 ^ j)) i ≡ has m i || j is i
has-set m j i = has-or m (2 ^ j) i ∙ ap (λ (b : Bool). has m i || b) (has-power j i)

pub set-small : (k m j : ℕ) → m < 2 ^ k → j < k → bit_or m (2 ^ j) < 2 ^ k
set-small k m j h l = or_lt k m (2 ^ j) h (pow-lt l)

-- the members of one set that are not in another
pub has-and-not : (k a c i : ℕ) → c < 2 ^ k → i < k → has (bit_and a (2 ^ k - 1 - c)) i ≡ has a i && not (has c i)
has-and-not k a c i h l = has-and a (2 ^ k - 1 - c) i ∙ ap (λ (b : Bool). has a i && b) (has-not k c i h l)

-- ---- the lowest member

-- the same from i on, as the induction wants it
from : (k i x : ℕ) (p : ℕ → Bool) → ((j : ℕ) → j < k → p (i + j) ≡ has x j) → first p i k ≡ i + count_trailing_zeros k x
unfolding first count_trailing_zeros bit has
from zero i x p h = sym (add-zero i)
from (suc k) i x p h =
    by (x % 2) (omega arith) (ap p (sym (add-zero i)) ∙ h 0 (omega arith))
    (from k (suc i) (x / 2) p (λ j l. ap p (suc-add i j ∙ sym (add-suc i j)) ∙ h (suc j) (omega arith)))
  where
    by : (d : ℕ) → d < 2 → p i ≡ eqb d 1 → first p (suc i) k ≡ suc i + count_trailing_zeros k (x / 2)
        → (if p i then i else first p (suc i) k) ≡ i + under d (count_trailing_zeros k (x / 2))
    by zero l e r = rw e (omega arith)
    by (suc zero) l e r = rw e (sym (add-zero i))
    by (suc (suc d)) l e r = absurd (omega arith)

pub lowest : (k x : ℕ) → first (λ i. has x i) 0 k ≡ count_trailing_zeros k x
lowest k x = from k 0 x (has x) (λ j l. ap (has x) (zero-add j)) ∙ zero-add (count_trailing_zeros k x)

-- a number with no digit set is 0
pub no_digit : (k x : ℕ) → x < 2 ^ k → k ≤ count_trailing_zeros k x → x ≡ 0
unfolding count_trailing_zeros
no_digit zero x h l = omega arith
no_digit (suc k) x h l = by (x % 2) refl (no_digit k (x / 2) (omega (arith, pow-suc 2 k))) l
  where
    by : (d : ℕ) → x % 2 ≡ d → (k ≤ count_trailing_zeros k (x / 2) → x / 2 ≡ 0) → suc k ≤ under d (count_trailing_zeros k (x / 2)) → x ≡ 0
    by zero e r m =
        let z : x / 2 ≡ 0 = r (omega arith) in
        omega arith
    by (suc d) e r m = absurd (omega arith)

-- ---- a set has one mask

same_bits : (k a b : ℕ) → a < 2 ^ k → b < 2 ^ k → ((i : ℕ) → i < k → bit a i ≡ bit b i) → a ≡ b
unfolding bit
same_bits zero a b h l e = omega arith
same_bits (suc k) a b h l e =
    let halves : a / 2 ≡ b / 2 = same_bits k (a / 2) (b / 2) (omega (arith, pow-suc 2 k)) (omega (arith, pow-suc 2 k)) (λ i m. e (suc i) (omega arith)) in
    let last : a % 2 ≡ b % 2 = e 0 (omega arith) in
    omega arith

pub same-members : (k a b : ℕ) → a < 2 ^ k → b < 2 ^ k → ((i : ℕ) → i < k → has a i ≡ has b i) → a ≡ b
same-members k a b h l e = same_bits k a b h l (λ i m. bit_is a i ∙ ap (λ (d : Bool). if d then 1 else 0) (e i m) ∙ sym (bit_is b i))
