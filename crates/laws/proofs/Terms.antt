-- The terms of the exponential's sum: what a cleared term stands for, and the step from one to the next.
use Prim.Native.Nat.{ℕ, zero, suc, ◌+◌, ◌*◌, ◌-◌, ◌/◌, ◌^◌, ◌≤◌, ◌<◌}
use mathlib.Core.Path.{◌≡◌, sym, ap, ◌∙◌}
use native.Mathlib.Nat.{zero-add, sub-add_cancel, sub_self, mul-one, one-mul, mul-pos, div-one, div-eq_of_eq-mul_right, sub-zero, pow-zero, pow-succ', mul-le-mul_right, pow-le-pow_left}
use native.Mathlib.Omega.{arith}
use lib.Pow.{pow-add}
use Rattle.laws.specs.Series.{factorial, cleared, exponential_bottom}

pub factorial-pos : (n : ℕ) → 0 < factorial n
unfolding factorial
factorial-pos zero = omega arith
factorial-pos (suc n) = mul-pos (omega arith) (factorial-pos n)

-- (j + 1) .. (j + k): a quotient of factorials with no division
rising : ℕ → ℕ → ℕ
rising j zero = 1
rising j (suc k) = suc j * rising (suc j) k

factorial-rising : (j k : ℕ) → factorial (k + j) ≡ factorial j * rising j k
unfolding factorial rising
factorial-rising j zero = rw (zero-add, mul-one)
factorial-rising j (suc k) =
    let e : suc k + j ≡ k + suc j = omega arith in
    ap factorial e ∙ factorial-rising (suc j) k ∙ omega arith

factorial-split : {j m : ℕ} → j ≤ m → factorial m ≡ factorial j * rising j (m - j)
factorial-split {j} {m} h = ap factorial (sym (sub-add_cancel h)) ∙ factorial-rising j (m - j)

cleared-is : (q m x j : ℕ) → j ≤ m → cleared q m x j ≡ x ^ j * (q ^ (m - j) * rising j (m - j))
unfolding cleared
cleared-is q m x j h = rw (div-eq_of_eq-mul_right (factorial-pos j) (factorial-split h))

-- (x/q)^j / j!, times q^m m!, read literally
pub cleared-literal : (q m x j : ℕ) → j ≤ m → cleared q m x j * (q ^ j * factorial j) ≡ x ^ j * exponential_bottom q m
unfolding exponential_bottom
cleared-literal q m x j h =
    let e : q ^ m ≡ q ^ (m - j) * q ^ j = ap (λ (n : ℕ). q ^ n) (sym (sub-add_cancel h)) ∙ pow-add q (m - j) j in
    rw (cleared-is q m x j h, e, factorial-split h) (omega arith)

pub cleared-first : (q m x : ℕ) → cleared q m x 0 ≡ exponential_bottom q m
unfolding cleared exponential_bottom factorial
cleared-first q m x = rw (pow-zero, sub-zero, div-one, one-mul)

pub cleared-none : (q m j : ℕ) → cleared q m 0 (suc j) ≡ 0
unfolding cleared
cleared-none q m j = rw (pow-succ' 0 j) (omega arith)

pub cleared-last : (q m x : ℕ) → cleared q m x m ≡ x ^ m
unfolding rising
cleared-last q m x = rw (cleared-is q m x m (omega arith), sub_self, pow-zero, mul-one (x ^ m))

pub cleared-step : (q m x j : ℕ) → j < m → suc j * q * cleared q m x (suc j) ≡ x * cleared q m x j
unfolding rising
cleared-step q m x j h =
    let e : m - j ≡ suc (m - suc j) = omega arith in
    rw (cleared-is q m x (suc j) h, cleared-is q m x j (omega arith), e, pow-succ' x j, pow-succ' q (m - suc j)) (omega arith)

pub cleared-grows : (q m j : ℕ) {x y : ℕ} → x ≤ y → cleared q m x j ≤ cleared q m y j
unfolding cleared
cleared-grows q m j h = mul-le-mul_right (q ^ (m - j) * (factorial m / factorial j)) (pow-le-pow_left h j)
