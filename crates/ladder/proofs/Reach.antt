-- How far exponents reach.
use Prim.Native.Nat.{◌≤◌}
use mathlib.Core.Path.{◌≡◌, sym, ap, ◌∙◌}
use native.Mathlib.Nat.{mul-le-mul}
use native.Mathlib.Omega.{arith}
use lib.IntN.{ℤ, pos, nat_abs, ◌*ℤ◌}
use Rattle.laws.specs.Integers.{up, down}
use Rattle.laws.proofs.Integers.{abs_is, mul-up, mul-down}
use Rattle.laws.proofs.Order.{ints}
use Rattle.paper.specs.Ladder.{midpoint}
use Rattle.paper.specs.Change.{exponent}
use Rattle.paper.specs.Sound.{Ranged}
use Rattle.paper.proofs.Midpoints.{midpoint-most}
use Rattle.ladder.specs.Reach.{OnLadder, IsExponent}

module _ (rate years : ℤ) (ranged : Ranged rate) (on : OnLadder years) where
  above : up (rate *ℤ years) ≤ 75000000000
  above = rw on.1 (omega (arith, mul-up rate (pos (midpoint on.0)), mul-le-mul ranged.high (midpoint-most on.0)))

  beneath : down (rate *ℤ years) ≤ 12500000000
  beneath = rw on.1 (omega (arith, mul-down rate (pos (midpoint on.0)), mul-le-mul ranged.low (midpoint-most on.0)))

  pub product_small : nat_abs (rate *ℤ years) ≤ 87500000000
  product_small = omega (arith, abs_is (rate *ℤ years), above, beneath)

  pub exponent-is : IsExponent rate years (rate *ℤ years)
  unfolding exponent
  exponent-is = record {
    is = λ k e. ap (λ (y : ℤ). rate *ℤ y) e;
    reach = record { low = omega (ints, beneath); high = omega (ints, above) };
  }

-- what the contract of an exponent permits is one number
pub one-exponent : {rate years X Y : ℤ} → OnLadder years → IsExponent rate years X → IsExponent rate years Y → X ≡ Y
one-exponent on x y = x.is on.0 on.1 ∙ sym (y.is on.0 on.1)
