-- Each add-on passed has its own value; the others are as they were.
use mathlib.Core.Path.{refl}
use lib.IntN.{pos, +ℤ_idr}
use lib.ListN.{get_or}
use borrow.Author.Rules.{rules}
use Rattle.posting.proofs.Loops.{joining-none, joining-rest, joining-next, joining-done}
use Rattle.slotting.proofs.Options.{added_fits, added}
use Rattle.slotting.proofs.option_add_on.add_values.Goals as goal

pub loop-j-init : goal.loop-j-init
loop-j-init c = (search rules, joining-none +ℤ_idr _ _)

pub overflow_add-addons : goal.overflow_add-addons
overflow_add-addons c =
    let at = c.loop-j in
    let here = joining-rest +ℤ_idr at.invariant.1 at.j (search rules) (search rules) in
    added_fits (get_or at.addons at.j (pos 0)) (get_or c.args.values.now at.j (pos 0)) c.sided-value.result.0 c.args.side (rw here (c.requires.fact at.j)) (c.requires.fact_2 at.j) c.sided-value.ensures

pub loop-j-preserved : goal.loop-j-preserved
loop-j-preserved c =
    let at = c.loop-j in
    let here = joining-rest +ℤ_idr at.invariant.1 at.j (search rules) (search rules) in
    let next = added (get_or at.addons at.j (pos 0)) (get_or c.args.values.now at.j (pos 0)) c.sided-value.result.0 c.args.side (rw here (c.requires.fact at.j)) (c.requires.fact_2 at.j) c.sided-value.ensures in
    (search rules, rw next (joining-next +ℤ_idr at.invariant.1 refl (search rules)))

pub returns : goal.returns
returns c = joining-done +ℤ_idr c.loop-j.invariant.1 (search rules)
