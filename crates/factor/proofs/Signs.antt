-- The start by the sign of X.
use Prim.Native.Nat.{◌-◌, ◌<◌}
use mathlib.Core.Path.{◌≡◌, refl}
use native.Mathlib.Omega.{arith}
use lib.IntN.{ℤ, pos, negsuc, ◌+ℤ◌}
use Rattle.laws.specs.Integers.{up, down}
use Rattle.laws.proofs.Integers.{side, add-up, add-down}
use Rattle.laws.proofs.Order.{ints}
use Rattle.paper.specs.Scales.{billion}
use Rattle.paper.specs.Factor.{after_digits, low_start, low_end, factor, InRange}

-- below zero, Y counts up from -1.25
pub counted : (X : ℤ) → InRange X → 0 < down X → pos low_end +ℤ X ≡ pos (low_end - down X)
counted X r h = omega (ints, side X, r.low, add-up (pos low_end) X, add-down (pos low_end) X)

pub factor-below : (X : ℤ) → 0 < down X → factor X ≡ after_digits low_start (low_end - down X) 11
unfolding factor
factor-below (pos X) h = absurd (omega arith)
factor-below (negsuc n) h = refl

pub factor-above : (X : ℤ) → down X ≡ 0 → factor X ≡ after_digits billion (up X) 11
unfolding factor
factor-above (pos X) e = refl
factor-above (negsuc n) e = absurd (omega arith)
