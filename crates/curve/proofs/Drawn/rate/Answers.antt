-- `rate` meets its contract: a rate in range and a change fit together.
use mathlib.Core.Path.{ap}
use native.Mathlib.Omega.{arith}
use lib.IntN.{ℤ, pos, ◌+ℤ◌}
use lib.ListN.{get_or}
use mir.Facts.{to_z-of_z}
use mir.Syntax.{w64}
use mir.Val.{SFits}
use Rattle.laws.proofs.Widths.{sfits-abs}
use Rattle.laws.proofs.Integers.{abs_is, abs-add}
use Rattle.paper.specs.Curve.{shocked_rate}
use Rattle.curve.proofs.Rates.{share-at, share-most}
use Rattle.curve.proofs.Drawn.rate.Goals as goal

pub change-moved-requires-clause-share_le_billion : goal.change-moved-requires-clause-share_le_billion
change-moved-requires-clause-share_le_billion c = rw (share-at _ c.short_shares.ensures c.requires) (share-most _)

pub returns-clause-result_value : goal.returns-clause-result_value
unfolding shocked_rate
returns-clause-result_value c =
    let base = get_or c.args.self.now.rates.now c.args.k (pos 0) in
    let moved = c.change-moved.result.0 in
    let ranged = c.args.self.now.listed.at (pos 0) c.args.k c.requires in
    let base-fits : SFits w64 base = sfits-abs base (omega (arith, abs_is base, ranged.low, ranged.high)) in
    let moved-fits : SFits w64 moved = sfits-abs moved (omega (arith, c.change-moved.ensures.result_bound)) in
    let fits : SFits w64 (base +ℤ moved) = sfits-abs _ (omega (arith, abs-add base moved, abs_is base, ranged.low, ranged.high, c.change-moved.ensures.result_bound)) in
    rw (to_z-of_z base-fits, to_z-of_z base-fits, to_z-of_z moved-fits, to_z-of_z fits)
    (ap (λ (x : ℤ). base +ℤ x) (rw (share-at _ c.short_shares.ensures c.requires) at c.change-moved.ensures.result_value))
