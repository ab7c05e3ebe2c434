-- `factor` meets its contract: Y fits on either side of zero.
use Prim.Native.Nat.{ℕ, ◌-◌, ◌^◌, ◌≤◌, ◌<◌}
use mathlib.Core.Path.{◌≡◌, sym, ap, ◌∙◌}
use native.Mathlib.Omega.{arith}
use lib.IntN.{ℤ, pos, ◌+ℤ◌}
use mir.Facts.{to_z-of_z}
use mir.Syntax.{w64}
use mir.Val.{to_z, of_z}
use Rattle.laws.specs.Integers.{up, down}
use Rattle.laws.proofs.Widths.{back, sfits-abs}
use Rattle.laws.proofs.Order.{ints, lt_z-true, not-below-zero}
use Rattle.paper.specs.Factor.{low_start, low_end, factor, InRange}
use Rattle.paper.proofs.FactorClose.{factor-at-most}
use Rattle.factor.proofs.Signs.{counted, factor-below, factor-above}
use Rattle.factor.proofs.factor.Goals as goal
use Rattle.factor.proofs.factor.Goals.{After-units-units, Else-units-lt0, Then-units-lt0}

-- X as it was read
reach : (c : After-units-units) → InRange c.units-units.result
reach c = rw c.units-units.ensures c.requires

same : (c : After-units-units) → to_z w64 (of_z w64 c.units-units.result) ≡ c.units-units.result
same c = back w64 c.units-units.result c.units-units.type_inv

-- ---- below zero

negative : (c : Then-units-lt0) → 0 < down c.units-units.result
negative c = let t = rw (same c.before) at c.if-units-lt0.true in omega (arith, lt_z-true c.units-units.result (pos 0) t)

sum_is : (c : Then-units-lt0) → pos 12500000000 +ℤ to_z w64 (of_z w64 c.units-units.result) ≡ pos (low_end - down c.units-units.result)
sum_is c = rw (same c.before) (counted c.units-units.result (reach c.before) (negative c))

pub overflow_add-units : goal.overflow_add-units
overflow_add-units c = rw (sum_is c) (sfits-abs _ (omega arith))

below : (c : Then-units-lt0)
    → to_z w64 (of_z w64 (pos 12500000000 +ℤ to_z w64 (of_z w64 c.units-units.result))) ≡ pos (low_end - down c.units-units.result)
below c = to_z-of_z (overflow_add-units c) ∙ sum_is c

pub overflow_cast-units : goal.overflow_cast-units
overflow_cast-units c = rw (below c) (tt, record { fits = omega arith })

pub after_digits-requires : goal.after_digits-requires
after_digits-requires c = (omega arith, rw (below c) (omega arith))

-- ---- from zero on

from_zero : (c : Else-units-lt0) → down c.units-units.result ≡ 0
from_zero c = not-below-zero c.units-units.result (rw (same c.before) at c.if-units-lt0.false)

above : (c : Else-units-lt0) → to_z w64 (of_z w64 c.units-units.result) ≡ pos (up c.units-units.result)
above c = let none = from_zero c in rw (same c.before) (omega ints)

most : (c : Else-units-lt0) → up c.units-units.result < 10 ^ 11
most c = let none = from_zero c in let r = reach c.before in omega ints

pub overflow_cast-units-else-units-lt0 : goal.overflow_cast-units-else-units-lt0
overflow_cast-units-else-units-lt0 c = rw (above c) (tt, record { fits = omega (arith, most c) })

pub after_digits-requires-else-units-lt0 : goal.after_digits-requires-else-units-lt0
after_digits-requires-else-units-lt0 c = (omega arith, rw (above c) (most c))

-- ---- the answers

given : {r : ℕ} (X : ℤ) → r ≡ factor X → (r ≡ factor X) × (r ≤ low_start)
given X e = (e, rw e (factor-at-most X))

pub returns-then-units-lt0 : goal.returns-then-units-lt0
returns-then-units-lt0 c =
    given _ ((rw (below (goal.at.returns-then-units-lt0 c).Then-units-lt0) at c.after_digits.ensures) ∙ sym (factor-below _ (negative (goal.at.returns-then-units-lt0 c).Then-units-lt0)) ∙ ap factor c.units-units.ensures)

pub returns-else-units-lt0 : goal.returns-else-units-lt0
returns-else-units-lt0 c =
    given _ ((rw (above (goal.at.returns-else-units-lt0 c).Else-units-lt0) at c.after_digits-else-units-lt0.ensures) ∙ sym (factor-above _ (from_zero (goal.at.returns-else-units-lt0 c).Else-units-lt0)) ∙ ap factor c.units-units.ensures)
