-- `twist` meets its contract: both parts and their sum fit.
use Prim.Native.Nat.{◌≤◌}
use mathlib.Core.Path.{◌≡◌, ap₂, ◌∙◌}
use native.Mathlib.Omega.{arith}
use lib.Dec.{lit<}
use lib.IntN.{ℤ, pos, nat_abs, ◌+ℤ◌, ◌-ℤ◌, ◌*ℤ◌}
use mir.Facts.{to_z-of_z}
use mir.Syntax.{w64}
use mir.Val.{to_z, of_z}
use Rattle.laws.specs.Nearest.{nearest_ℤ}
use Rattle.laws.proofs.Widths.{back, sfits-abs}
use Rattle.laws.proofs.Integers.{abs_is, diff-up, diff-down, abs-add}
use Rattle.laws.proofs.Nearest.{near_le}
use Rattle.paper.specs.Scales.{billion}
use Rattle.curve.specs.Shocked.{twisted}
use Rattle.curve.proofs.twist.Goals as goal
use Rattle.curve.proofs.twist.Goals.{After-weighed-by_long, After-weighed-by_short, After-from-s}

share-is : (c : After-from-s) → to_z w64 (of_z w64 c.from-s.result) ≡ pos c.args.share
share-is c = rw (back w64 c.from-s.result c.from-s.type_inv) c.from-s.ensures

pub weighed-by_short-requires : goal.weighed-by_short-requires
weighed-by_short-requires c = (rw (to_z-of_z c.ranges.short) c.requires.share_le_billion.1.0, (c.requires.sized.short-most, rw (share-is c) c.requires.share_le_billion.0))

-- ---- the rest: a billion less s

rest-most : (c : After-from-s) → nat_abs (pos billion -ℤ pos c.args.share) ≤ billion
rest-most c =
    let rest = pos billion -ℤ pos c.args.share in
    omega (arith, abs_is rest, diff-up (pos billion) (pos c.args.share), diff-down (pos billion) (pos c.args.share), c.requires.share_le_billion.0)

pub overflow_sub-s : goal.overflow_sub-s
overflow_sub-s c = rw (share-is (goal.at.overflow_sub-s c).After-from-s) (sfits-abs _ (omega (arith, rest-most (goal.at.overflow_sub-s c).After-from-s)))

pub weighed-by_long-requires : goal.weighed-by_long-requires
weighed-by_long-requires c =
    (rw (to_z-of_z c.ranges.long) c.requires.share_le_billion.1.1, (c.requires.sized.long-most, rw (to_z-of_z (overflow_sub-s c), share-is (goal.at.weighed-by_long-requires c).After-from-s) (rest-most (goal.at.weighed-by_long-requires c).After-from-s)))

-- ---- the two parts

short-is : (c : After-weighed-by_short)
    → c.weighed-by_short.result ≡ c.args.short *ℤ pos c.args.shocks.short *ℤ pos c.args.share
short-is c = rw (to_z-of_z c.ranges.short, share-is c.before) at c.weighed-by_short.ensures.0

long-is : (c : After-weighed-by_long)
    → c.weighed-by_long.result
    ≡ c.args.long *ℤ pos c.args.shocks.long *ℤ (pos billion -ℤ pos c.args.share)
long-is c =
    rw (to_z-of_z (overflow_sub-s c.before), to_z-of_z c.ranges.long, share-is c.before.before) at c.weighed-by_long.ensures.0

pub overflow_add-by_short : goal.overflow_add-by_short
overflow_add-by_short c =
    rw (back w64 c.weighed-by_short.result c.weighed-by_short.type_inv, back w64 c.weighed-by_long.result c.weighed-by_long.type_inv)
    (sfits-abs _ (omega (arith, abs-add c.weighed-by_short.result c.weighed-by_long.result)))

pub rounded-requires : goal.rounded-requires
rounded-requires c =
    rw (to_z-of_z (overflow_add-by_short c), back w64 c.weighed-by_short.result c.weighed-by_short.type_inv, back w64 c.weighed-by_long.result c.weighed-by_long.type_inv)
    (omega (arith, abs-add c.weighed-by_short.result c.weighed-by_long.result))

pub returns : goal.returns
unfolding twisted
returns c =
    rw (back w64 c.rounded.result c.rounded.type_inv) record {
      result_value = (rw (to_z-of_z (overflow_add-by_short (goal.at.returns c).After-weighed-by_long), back w64 c.weighed-by_short.result c.weighed-by_short.type_inv, back w64 c.weighed-by_long.result c.weighed-by_long.type_inv) at c.rounded.ensures)
          ∙ ap₂ (λ (x y : ℤ). nearest_ℤ (x +ℤ y) billion) (short-is (goal.at.returns c).After-weighed-by_short) (long-is (goal.at.returns c).After-weighed-by_long);
      result_bound = rw (c.rounded.ensures, to_z-of_z (overflow_add-by_short (goal.at.returns c).After-weighed-by_long), back w64 c.weighed-by_short.result c.weighed-by_short.type_inv, back w64 c.weighed-by_long.result c.weighed-by_long.type_inv)
          (near_le _ (lit< tt) (omega (arith, abs-add c.weighed-by_short.result c.weighed-by_long.result)));
    }
