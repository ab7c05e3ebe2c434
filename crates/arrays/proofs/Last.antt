-- The last currency of a set: by leading zeros of its mask, and none of the set is above it.
use Prim.Native.Nat.{ℕ, zero, suc, ◌+◌, ◌-◌, ◌*◌, ◌/◌, ◌%◌, ◌^◌, ◌≤◌, ◌<◌}
use mathlib.Core.Bool.{Bool, true, false, true≢false}
use mathlib.Core.Logic.{⊎_elim}
use mathlib.Core.Path.{◌≡◌, refl, sym, ap, ◌∙◌}
use native.Mathlib.Nat.{le_antisymm, div-eq_of_lt, div-eq_of_lt-le, lt_of_lt_of_le, pow-suc}
use native.Mathlib.Omega.{arith}
use lib.Count.{count_leading_zeros, leading_length}
use lib.Dec.{eqb}
use lib.Pow.{pow_mono}
use Rattle.std.specs.Prelude.{if◌then◌else◌}
use Rattle.laws.specs.Digits.{has}
use Rattle.laws.specs.Sums.{greatest}
use Rattle.laws.proofs.Digits.{bit_shifted}
use Rattle.laws.proofs.Sums.{at_most, greatest-least}
use Rattle.laws.proofs.Tests.{lt-or-ge}
use Rattle.paper.specs.Records.{currencies}
use Rattle.arrays.specs.Masks.{curved_by, last_of}

-- ---- the digits of a number that is so many digits long

no-higher : (mask m i : ℕ) → mask < 2 ^ m → m ≤ i → has mask i ≡ false
unfolding has
no-higher mask m i h l = ap (λ (x : ℕ). eqb x 1) (bit_shifted mask i ∙ ap (λ (x : ℕ). x % 2) (div-eq_of_lt (lt_of_lt_of_le h (pow_mono l))))

its-highest : (mask j : ℕ) → mask < 2 ^ suc j → 2 ^ suc j ≤ 2 * mask + 1 → has mask j ≡ true
unfolding has
its-highest mask j h l =
    let half : 2 ^ j ≤ mask = omega (arith, pow-suc 2 j) in
    let one : mask / 2 ^ j ≡ 1 = div-eq_of_lt-le {k = 1} (2 ^ j) (omega arith) (omega (arith, pow-suc 2 j)) in
    ap (λ (x : ℕ). eqb x 1) (bit_shifted mask j ∙ ap (λ (x : ℕ). x % 2) one)

-- ---- the last currency

module _ (mask : ℕ) where
  abbrev own : ℕ → ℕ
  own c = if curved_by mask c then c else 0

  own_of : (b : Bool) (c m : ℕ) → (b ≡ true → c ≤ m) → (if b then c else 0) ≤ m
  own_of true c m h = h refl
  own_of false c m h = omega arith

  pub last-most : last_of mask ≤ currencies
  unfolding last_of
  last-most = greatest-least own currencies currencies (λ c _ l. own_of (curved_by mask c) c currencies (λ _. l))

  pub past-last : (c : ℕ) → last_of mask < c → c ≤ currencies → curved_by mask c ≡ false
  unfolding last_of
  past-last c l h = by (curved_by mask c) refl (at_most own currencies c (omega arith) h)
    where
      by : (b : Bool) → curved_by mask c ≡ b → (if b then c else 0) ≤ greatest own currencies → b ≡ false
      by true e m = absurd (omega arith)
      by false e m = refl

  pub by-leading-zeros : mask < 2 ^ 32 → 32 - count_leading_zeros 32 mask ≡ last_of mask
  unfolding last_of curved_by
  by-leading-zeros fits =
      let found = leading_length 32 mask fits in
      let m = found.0 in
      let digits : 32 - count_leading_zeros 32 mask ≡ m = omega (arith, found.1) in
      let most : m ≤ currencies = omega (arith, found.1) in
      digits ∙ le_antisymm (reached m most found.2 found.3) (greatest-least own currencies m (λ c _ _. own_of (curved_by mask c) c m (below-it c m found.2)))
    where
      below-it : (c m : ℕ) → mask < 2 ^ m → curved_by mask c ≡ true → c ≤ m
      below-it c m h e = ⊎_elim (λ (l : m < c). let z : ◌≡◌ {A = Bool} true false = sym e ∙ no-higher mask m (c - 1) h (omega arith) in absurd (true≢false z)) (λ (l : c ≤ m). l) (lt-or-ge m c)

      reached : (m : ℕ) → m ≤ currencies → mask < 2 ^ m → 2 ^ m ≤ 2 * mask + 1 → m ≤ greatest own currencies
      reached zero l h k = omega arith
      reached (suc j) l h k =
          let digit : suc j - 1 ≡ j = omega arith in
          let here : own (suc j) ≡ suc j = ap (λ (b : Bool). if b then suc j else 0) (ap (has mask) digit ∙ its-highest mask j h k) in
          omega (arith, here, at_most own currencies (suc j) (omega arith) l)
