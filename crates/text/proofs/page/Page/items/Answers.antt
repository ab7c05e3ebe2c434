-- The items before this one have been written.
use native.Mathlib.Omega.{arith}
use Rattle.paper.specs.Program.{items}
use Rattle.text.proofs.Pages.{adds_none, adds_then}
use Rattle.text.proofs.Items.{items_more, taken-length}
use Rattle.text.proofs.page.Page.items.Goals as goal

pub loop-number-init : goal.loop-number-init
unfolding items
loop-number-init g c = adds_none _

pub put-requires : goal.put-requires
put-requires g c =
    omega (arith, taken-length g.I.Item.number c.args.numbers.now c.loop-number.number-index (omega arith))

pub loop-number-preserved : goal.loop-number-preserved
loop-number-preserved g c =
    rw (items_more g.I.Item.number c.args.numbers.now c.loop-number.number-index c.number-item.result (omega arith) c.number-item.is)
    (adds_then c.loop-number.invariant c.put.ensures)
