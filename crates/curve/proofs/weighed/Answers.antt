-- `weighed` meets its contract: the product of the three bounds fits.
use mathlib.Core.Path.{◌≡◌}
use borrow.Author.Rules.{rules}
use lib.IntN.{pos, ◌*ℤ◌}
use mir.Facts.{to_z-of_z}
use mir.Syntax.{w64}
use mir.Val.{to_z, of_z}
use Rattle.laws.proofs.Widths.{Small, back, small_mul, small_pos, small-le, small-fits}
use Rattle.curve.proofs.weighed.Goals as goal
use Rattle.curve.proofs.weighed.Goals.{After-from}

shock-is : (c : After-from) → to_z w64 (of_z w64 c.from.result) ≡ pos c.args.shock
shock-is c = rw (back w64 c.from.result c.from.type_inv) c.from.ensures

first : (c : After-from) → Small 100000 (c.args.weight *ℤ pos c.args.shock)
first c = small_mul {a = c.args.weight} (record { small = c.requires.0 }) (small-le c.requires.1.0 (small_pos c.args.shock))

both : (c : After-from) → Small 100000000000000 (c.args.weight *ℤ pos c.args.shock *ℤ c.args.share)
both c = small_mul {b = c.args.share} (first c) (record { small = c.requires.1.1 })

pub overflow_mul-result : goal.overflow_mul-result
overflow_mul-result c = rw (to_z-of_z c.ranges.weight, shock-is c) (small-fits tt (first c))

pub overflow_mul-result-2 : goal.overflow_mul-result-2
overflow_mul-result-2 c =
    rw (to_z-of_z (overflow_mul-result c), to_z-of_z c.ranges.weight, shock-is c, to_z-of_z c.ranges.share) (small-fits tt (both c))

pub returns : goal.returns
returns c =
    rw (to_z-of_z (overflow_mul-result-2 c), to_z-of_z (overflow_mul-result c), to_z-of_z c.ranges.weight, shock-is c, to_z-of_z c.ranges.share)
    (search rules, (both c).small)
