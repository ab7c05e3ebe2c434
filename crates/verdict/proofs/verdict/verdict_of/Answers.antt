-- `verdict_of` meets its contract: 64 bits hold every number on the way, so the tests are the paper's.
use Prim.Native.Nat.{ℕ}
use mathlib.Core.Bool.{Bool, true, false}
use mathlib.Core.Path.{◌≡◌}
use native.Mathlib.Omega.{arith}
use lib.IntN.{ℤ, pos, ◌+ℤ◌, ◌-ℤ◌, ◌*ℤ◌}
use lib.Signed.{lt_z, le_z}
use mir.Syntax.{w64}
use mir.Val.{SFits, to_z, of_z}
use mir.Facts.{to_z-of_z, to_z_pos}
use Rattle.laws.proofs.Widths.{Small, small_pos, small-le, small-add, small-sub, small_mul, small-fits}
use Rattle.paper.specs.declared.Verdict.TheVariants.{Over, Within, Close}
use Rattle.paper.specs.Verdict.{verdict}
use Rattle.verdict.specs.Figures.{most_of_a_sum}
use Rattle.verdict.proofs.verdict.verdict_of.Goals as goal
use Rattle.verdict.proofs.verdict.verdict_of.Goals.{Start}

-- the verdict by its two tests
module _ (m u T : ℕ) where
  abbrev over_test : Bool
  over_test = lt_z (pos 15 *ℤ pos T) (pos 100 *ℤ (pos m -ℤ pos u))

  abbrev within_test : Bool
  within_test = le_z (pos 100 *ℤ (pos m +ℤ pos u)) (pos 15 *ℤ pos T)

  over-is : over_test ≡ true → Over ≡ verdict m u T
  unfolding verdict
  over-is e = rw e

  within-is : over_test ≡ false → within_test ≡ true → Within ≡ verdict m u T
  unfolding verdict
  within-is e f = rw (e, f)

  close-is : over_test ≡ false → within_test ≡ false → Close ≡ verdict m u T
  unfolding verdict
  close-is e f = rw (e, f)

-- every number on the way fits
module _ (c : Start) where
  abbrev m : ℤ
  m = pos c.args.measure.0

  abbrev u : ℤ
  u = pos c.args.tolerance.0

  m-small : Small most_of_a_sum m
  m-small = small-le (omega arith) (small_pos c.args.measure.0)

  u-small : Small most_of_a_sum u
  u-small = small-le (omega arith) (small_pos c.args.tolerance.0)

  limit-fits : SFits w64 (pos 15 *ℤ pos c.args.tier1.0)
  limit-fits = small-fits tt (small_mul (small_pos 15) (small-le {n = 1000000000000} (omega arith) (small_pos c.args.tier1.0)))

  less-fits : SFits w64 (m -ℤ u)
  less-fits = small-fits tt (small-sub m-small u-small)

  low_fits : SFits w64 (pos 100 *ℤ (m -ℤ u))
  low_fits = small-fits tt (small_mul (small_pos 100) (small-sub m-small u-small))

  more-fits : SFits w64 (m +ℤ u)
  more-fits = small-fits tt (small-add m-small u-small)

  high_fits : SFits w64 (pos 100 *ℤ (m +ℤ u))
  high_fits = small-fits tt (small_mul (small_pos 100) (small-add m-small u-small))

  m-is : to_z w64 c.args.measure.0 ≡ m
  m-is = to_z_pos w64 {n = c.args.measure.0} (omega arith)

  u-is : to_z w64 c.args.tolerance.0 ≡ u
  u-is = to_z_pos w64 {n = c.args.tolerance.0} (omega arith)

  tier1-is : to_z w64 c.args.tier1.0 ≡ pos c.args.tier1.0
  tier1-is = to_z_pos w64 {n = c.args.tier1.0} (omega arith)

  limit_is : to_z w64 (of_z w64 (pos 15 *ℤ to_z w64 c.args.tier1.0)) ≡ pos 15 *ℤ pos c.args.tier1.0
  limit_is = rw tier1-is (to_z-of_z limit-fits)

  low-is : to_z w64 (of_z w64 (pos 100 *ℤ to_z w64 (of_z w64 (to_z w64 c.args.measure.0 -ℤ to_z w64 c.args.tolerance.0)))) ≡ pos 100 *ℤ (m -ℤ u)
  low-is = rw (m-is, u-is, to_z-of_z less-fits) (to_z-of_z low_fits)

  high_is : to_z w64 (of_z w64 (pos 100 *ℤ to_z w64 (of_z w64 (to_z w64 c.args.measure.0 +ℤ to_z w64 c.args.tolerance.0)))) ≡ pos 100 *ℤ (m +ℤ u)
  high_is = rw (m-is, u-is, to_z-of_z more-fits) (to_z-of_z high_fits)

pub returns-then-low-limit : goal.returns-then-low-limit
returns-then-low-limit c =
    let s = (goal.at.returns-then-low-limit c).Start in
    over-is _ _ _ (rw (limit_is s, low-is s) at c.if-low-limit.true)

pub returns-then-high-limit : goal.returns-then-high-limit
returns-then-high-limit c =
    let s = (goal.at.returns-then-high-limit c).Start in
    within-is _ _ _ (rw (limit_is s, low-is s) at c.if-low-limit.false) (rw (limit_is s, high_is s) at c.if-high-limit.true)

pub returns : goal.returns
returns c =
    let s = (goal.at.returns c).Start in
    close-is _ _ _ (rw (limit_is s, low-is s) at c.if-low-limit.false) (rw (limit_is s, high_is s) at c.if-high-limit.false)
