-- The ring of integers: the laws of the product that the library lacks, and equations regrouped.
use Prim.Native.Nat.{ℕ, ◌*◌}
use mathlib.Core.Path.{◌≡◌, ap, ◌∙◌}
use lib.IntN.{ℤ, pos, *ℤ_comm, zero-*ℤ, +ℤ_idr, neg_ℤ, ◌+ℤ◌, ◌-ℤ◌, ◌*ℤ◌}
use Rattle.laws.specs.Integers.{up, down}
use Rattle.laws.proofs.Integers.{neg-up, neg-down, add_is, sub_is, mul-up, mul-down}
use Rattle.laws.proofs.Order.{ints}

-- omega multiplies out but multiplies no equation by a number: these are the equations of a part, multiplied

pub add-mul : (a b c : ℤ) → (a +ℤ b) *ℤ c ≡ a *ℤ c +ℤ b *ℤ c
add-mul a b c =
    omega (
      ints,
      mul-up (a +ℤ b) c,
      mul-down (a +ℤ b) c,
      mul-up a c,
      mul-down a c,
      mul-up b c,
      mul-down b c,
      add_is (a *ℤ c) (b *ℤ c),
      ap (λ (x : ℕ). x * up c) (add_is a b),
      ap (λ (x : ℕ). x * down c) (add_is a b),
    )

pub mul-add : (a b c : ℤ) → a *ℤ (b +ℤ c) ≡ a *ℤ b +ℤ a *ℤ c
mul-add a b c = rw (*ℤ_comm a (b +ℤ c), *ℤ_comm a b, *ℤ_comm a c) (add-mul b c a)

pub neg-mul : (a b : ℤ) → neg_ℤ a *ℤ b ≡ neg_ℤ (a *ℤ b)
neg-mul a b =
    omega (
      ints,
      mul-up (neg_ℤ a) b,
      mul-down (neg_ℤ a) b,
      neg-up (a *ℤ b),
      neg-down (a *ℤ b),
      mul-up a b,
      mul-down a b,
      ap (λ (x : ℕ). x * up b) (neg-up a),
      ap (λ (x : ℕ). x * down b) (neg-up a),
      ap (λ (x : ℕ). x * up b) (neg-down a),
      ap (λ (x : ℕ). x * down b) (neg-down a),
    )

pub sub-mul : (a b c : ℤ) → (a -ℤ b) *ℤ c ≡ a *ℤ c -ℤ b *ℤ c
sub-mul a b c = add-mul a (neg_ℤ b) c ∙ ap (λ (z : ℤ). a *ℤ c +ℤ z) (neg-mul b c)

pub mul-sub : (a b c : ℤ) → a *ℤ (b -ℤ c) ≡ a *ℤ b -ℤ a *ℤ c
mul-sub a b c = rw (*ℤ_comm a (b -ℤ c), *ℤ_comm a b, *ℤ_comm a c) (sub-mul b c a)

pub mul_assoc : (a b c : ℤ) → (a *ℤ b) *ℤ c ≡ a *ℤ (b *ℤ c)
mul_assoc a b c =
    omega (
      ints,
      mul-up (a *ℤ b) c,
      mul-down (a *ℤ b) c,
      mul-up a (b *ℤ c),
      mul-down a (b *ℤ c),
      ap (λ (x : ℕ). x * up c) (mul-up a b),
      ap (λ (x : ℕ). x * down c) (mul-up a b),
      ap (λ (x : ℕ). x * up c) (mul-down a b),
      ap (λ (x : ℕ). x * down c) (mul-down a b),
      ap (λ (x : ℕ). up a * x) (mul-up b c),
      ap (λ (x : ℕ). down a * x) (mul-up b c),
      ap (λ (x : ℕ). up a * x) (mul-down b c),
      ap (λ (x : ℕ). down a * x) (mul-down b c),
    )

-- four numbers regrouped
pub sub-add-sub : (x y n m : ℤ) → (x +ℤ y) -ℤ (n +ℤ m) ≡ (x -ℤ n) +ℤ (y -ℤ m)
sub-add-sub x y n m =
    omega (ints, sub_is (x +ℤ y) (n +ℤ m), add_is x y, add_is n m, add_is (x -ℤ n) (y -ℤ m), sub_is x n, sub_is y m)

-- a difference by way of a third number
pub sub-through : (x y z : ℤ) → x -ℤ z ≡ (x -ℤ y) +ℤ (y -ℤ z)
sub-through x y z = omega (ints, sub_is x z, sub_is x y, sub_is y z, add_is (x -ℤ y) (y -ℤ z))

-- a term moved to the other side
pub move : (a b c : ℤ) → a +ℤ b ≡ c → a ≡ c -ℤ b
move a b c h = omega (ints, add_is a b, sub_is c b)

-- a product of three that is taken off, or is nothing
pub add-neg-mul : (x a b c : ℤ) → x +ℤ neg_ℤ a *ℤ b *ℤ c ≡ x -ℤ a *ℤ b *ℤ c
add-neg-mul x a b c = ap (λ (y : ℤ). x +ℤ y) (ap (λ (y : ℤ). y *ℤ c) (neg-mul a b) ∙ neg-mul (a *ℤ b) c)

pub add-zero-mul : (x b c : ℤ) → x +ℤ pos 0 *ℤ b *ℤ c ≡ x
add-zero-mul x b c = rw (zero-*ℤ b, zero-*ℤ c) (+ℤ_idr x)
