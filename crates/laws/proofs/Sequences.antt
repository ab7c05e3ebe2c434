-- The product of two sequences, as of two series, and its sum between the products of the factors' sums.
use Prim.Native.Nat.{ℕ, zero, suc, ◌+◌, ◌*◌, ◌≤◌, ◌<◌}
use mathlib.Core.Path.{◌≡◌, ap}
use native.Mathlib.Nat.{le_refl, suc-add, mul-le-mul_left}
use native.Mathlib.Omega.{arith}
use Rattle.laws.specs.Sums.{sum}
use Rattle.laws.proofs.Sums.{sum-front, sum_mono}

abbrev pub shift : (ℕ → ℕ) → ℕ → ℕ
shift f j = f (suc j)

-- f 0 * g n + f 1 * g (n - 1) + .. + f n * g 0: by the first of f, so that no index is subtracted
unfoldable pub product : (ℕ → ℕ) → (ℕ → ℕ) → ℕ → ℕ
product f g zero = f 0 * g 0
product f g (suc n) = f 0 * g (suc n) + product (shift f) g n

-- the triangle of the terms f i * g j with i + j ≤ n, its first row apart
rows : (f g : ℕ → ℕ) (n : ℕ) → sum (product f g) (suc n) ≡ f 0 * sum g (suc n) + sum (product (shift f) g) n
unfolding sum product
rows f g zero = omega arith
rows f g (suc n) = omega (arith, rows f g n)

-- the triangle lies in the square
pub product-in : (f g : ℕ → ℕ) (n : ℕ) → sum (product f g) n ≤ sum f n * sum g n
unfolding sum
product-in f g zero = le_refl 0
product-in f g (suc n) =
    omega (arith, rows f g n, ap (λ (x : ℕ). x * sum g (suc n)) (sum-front f n), product-in (shift f) g n)

-- and a triangle of twice the side holds the square
pub product-out : (f g : ℕ → ℕ) (k n : ℕ) → sum f k * sum g n ≤ sum (product f g) (k + n)
unfolding sum
product-out f g zero n = omega arith
product-out f g (suc k) n =
    let e : n + suc k ≡ suc k + n = omega arith in
    let longer : sum g n ≤ sum g (suc k + n) = rw e at (sum_mono g n (suc k)) in
    rw suc-add
    (omega (
      arith,
      rows f g (k + n),
      ap (λ (x : ℕ). x * sum g n) (sum-front f k),
      mul-le-mul_left (f 0) (rw suc-add at longer),
      product-out (shift f) g k n,
    ))

-- terms compared, with a factor on each side
pub sum-compare : (a b : ℕ) (f g : ℕ → ℕ) (n : ℕ) → ((j : ℕ) → j < n → f j * a ≤ g j * b) → sum f n * a ≤ sum g n * b
unfolding sum
sum-compare a b f g zero h = omega arith
sum-compare a b f g (suc n) h = omega (arith, sum-compare a b f g n (λ j l. h j (omega arith)), h n (omega arith))
