-- 64 bits hold the limit, the measure and their difference.
use Prim.Native.Nat.{ℕ, ◌*◌}
use mathlib.Core.Path.{◌≡◌}
use native.Mathlib.Omega.{arith}
use lib.IntN.{pos, ◌-ℤ◌}
use mir.Facts.{to_z-of_z, to_z_pos}
use mir.Syntax.{w64}
use mir.Val.{SFits, to_z, of_z}
use Rattle.laws.proofs.Widths.{Small, small_pos, small-le, small-sub, small-fits}
use Rattle.paper.specs.Detail.{limit, headroom}
use Rattle.verdict.specs.Figures.{most_of_a_sum}
use Rattle.detail.proofs.standing.Standing.headroom.Goals as goal
use Rattle.detail.proofs.standing.Standing.headroom.Goals.{Start}

module _ (s : Start) where
  abbrev hundredths : ℕ
  hundredths = 100 * s.args.self.now.measure.0

  limit-small : Small 15_000_000_000_000 (limit s.args.self.now.tier1.0)
  limit-small = small-le (omega arith) (small_pos (15 * s.args.self.now.tier1.0))

  measure-small : Small (100 * most_of_a_sum) (pos hundredths)
  measure-small = small-le (omega arith) (small_pos hundredths)

  limit-fits : SFits w64 (limit s.args.self.now.tier1.0)
  limit-fits = small-fits tt limit-small

  limit_is : to_z w64 (of_z w64 (limit s.args.self.now.tier1.0)) ≡ limit s.args.self.now.tier1.0
  limit_is = to_z-of_z limit-fits

  measured : to_z w64 hundredths ≡ pos hundredths
  measured = to_z_pos w64 {n = hundredths} (omega arith)

  headroom-fits : SFits w64 (limit s.args.self.now.tier1.0 -ℤ pos hundredths)
  headroom-fits = small-fits tt (small-sub limit-small measure-small)

pub returns : goal.returns
unfolding headroom
returns c =
    let s = (goal.at.returns c).Start in
    rw (c.limit.ensures, limit_is s, measured s) (to_z-of_z (headroom-fits s))
