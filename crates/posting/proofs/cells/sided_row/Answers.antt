-- The flows passed have their sign.
use mathlib.Core.Path.{ap, ◌∙◌}
use native.Mathlib.Omega.{arith}
use lib.IntN.{ℤ, pos}
use lib.ListN.{get_or}
use mir.Facts.{to_z-of_z}
use mir.Syntax.{w64}
use mir.Val.{to_z, of_z}
use borrow.Author.Rules.{rules}
use Rattle.laws.proofs.Widths.{sfits-abs}
use Rattle.laws.proofs.Filling.{filled_next, filled-all}
use Rattle.paper.specs.Ladder.{buckets}
use Rattle.paper.specs.Flow.{sided}
use Rattle.paper.proofs.Magnitudes.{abs-sided}
use Rattle.posting.proofs.cells.sided_row.Goals as goal

pub loop-k-init : goal.loop-k-init
loop-k-init c = (search rules, λ j o. absurd (omega arith))

pub sided_amount-requires : goal.sided_amount-requires
sided_amount-requires c = c.requires.at_most c.loop-k.k

pub loop-k-preserved : goal.loop-k-preserved
loop-k-preserved c =
    let at = c.loop-k in
    let is = c.sided_amount.ensures in
    let fits = sfits-abs {w = w64} (sided c.args.side (pos (get_or c.args.row.now at.k 0))) (rw (abs-sided c.args.side (pos (get_or c.args.row.now at.k 0))) (omega (arith, c.requires.at_most at.k))) in
    (search rules, filled_next (pos 0) _ at.flows at.k _ at.invariant.1 (ap (λ (z : ℤ). to_z w64 (of_z w64 z)) is ∙ to_z-of_z {w = w64} fits) (search rules))

pub returns : goal.returns
returns c =
    let at = c.loop-k in
    filled-all (pos 0) _ at.flows buckets at.invariant.0 (λ k l. at.invariant.1 k (omega arith))
