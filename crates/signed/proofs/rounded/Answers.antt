-- `rounded` meets its contract: half the divisor is added on the number's own side, and the division goes toward zero.
use Prim.Native.Nat.{ℕ, ◌≤◌}
use mathlib.Core.Path.{◌≡◌}
use native.Mathlib.Omega.{arith}
use lib.IntN.{ℤ, pos, nat_abs, ◌+ℤ◌, ◌-ℤ◌}
use lib.Signed.{quot_z}
use mir.Syntax.{w64}
use mir.Val.{SFits}
use borrow.Author.Rules.{rules}
use Rattle.laws.specs.Integers.{up, down}
use Rattle.laws.specs.Nearest.{nearest_ℤ}
use Rattle.laws.proofs.Integers.{abs-add, abs-sub}
use Rattle.laws.proofs.Widths.{sfits-abs, quot_fits, test_below, test-not-below}
use Rattle.laws.proofs.Nearest.{quot_above, quot_below}
use Rattle.paper.specs.Scales.{billion}
use Rattle.signed.proofs.rounded.Goals as goal

-- half a divisor more or less fits, and so does the quotient
module _ (z : ℤ) (h : ℕ) (small : nat_abs z ≤ 7000000000000000000) (l : h ≤ billion) where
  low : SFits w64 (z -ℤ pos h)
  low = sfits-abs (z -ℤ pos h) (omega (arith, abs-sub z (pos h)))

  low-over : (d : ℕ) → SFits w64 (quot_z (z -ℤ pos h) (pos d))
  low-over d = quot_fits (z -ℤ pos h) d low

  high : SFits w64 (z +ℤ pos h)
  high = sfits-abs (z +ℤ pos h) (omega (arith, abs-add z (pos h)))

  high-over : (d : ℕ) → SFits w64 (quot_z (z +ℤ pos h) (pos d))
  high-over d = quot_fits (z +ℤ pos h) d high

below : (z : ℤ) → up z ≡ 0 → quot_z (z -ℤ pos 500000000) (pos billion) ≡ nearest_ℤ z billion
below z e = quot_below z 500000000 e

above : (z : ℤ) → down z ≡ 0 → quot_z (z +ℤ pos 500000000) (pos billion) ≡ nearest_ℤ z billion
above z e = quot_above z 500000000 e

pub overflow_sub-result : goal.overflow_sub-result
overflow_sub-result c = search (rules, low)

pub nonzero_div-result : goal.nonzero_div-result
nonzero_div-result c = search (rules, low, low-over)

pub overflow_add-result : goal.overflow_add-result
overflow_add-result c = search (rules, high)

pub nonzero_div-result-else-billionths-lt0 : goal.nonzero_div-result-else-billionths-lt0
nonzero_div-result-else-billionths-lt0 c = search (rules, high, high-over)

pub returns-then-billionths-lt0 : goal.returns-then-billionths-lt0
returns-then-billionths-lt0 c = search (rules, low, low-over, below, test_below)

pub returns-else-billionths-lt0 : goal.returns-else-billionths-lt0
returns-else-billionths-lt0 c = search (rules, high, high-over, above, test-not-below)
