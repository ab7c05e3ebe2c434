-- The scenarios passed have the row; the cells of the others are as they were.
use Prim.Native.Nat.{ℕ, ◌+◌, ◌*◌, ◌-◌, ◌%◌}
use mathlib.Core.Path.{◌≡◌, ap}
use native.Mathlib.Omega.{arith}
use lib.IntN.{pos, +ℤ_idr}
use lib.ListN.{get_or}
use Rattle.paper.specs.Flow.{sided}
use Rattle.posting.proofs.Loops.{joining-none, joining-done}
use Rattle.posting.proofs.Sides.{row_fits, row-added}
use Rattle.posting.proofs.cells.add_row.Goals as goal

pub loop-i-init : goal.loop-i-init
loop-i-init c = joining-none +ℤ_idr _ _

pub add_cells-requires : goal.add_cells-requires
add_cells-requires c =
    let at = c.loop-i in
    let signed = c.sided_row-flows.ensures in
    let count : 19 * at.i + 19 - 19 * at.i ≡ 19 = omega arith in
    let w = (row_fits c.args.side c.args.row.now signed at.i (omega (arith, c.requires.section_len)) at.invariant c.requires.fact c.requires.at_most) in record { flows_len = rw count w.0; fact = rw count w.1.0; fact_2 = w.1.1 }

pub loop-i-preserved : goal.loop-i-preserved
loop-i-preserved c =
    let at = c.loop-i in
    let side = c.args.side in
    let row = c.args.row.now in
    let signed = c.sided_row-flows.ensures in
    let count : 19 * at.i + 19 - 19 * at.i ≡ 19 = omega arith in
    let next = row-added side row signed at.i (omega (arith, c.requires.section_len)) at.invariant (rw count at c.add_cells.ensures)
    (λ k l. let bucket : k ≡ (19 * at.i + k) % 19 = omega arith in ap (λ (j : ℕ). sided side (pos (get_or row j 0))) bucket) in
    rw count next

pub returns : goal.returns
returns c = joining-done +ℤ_idr c.loop-i.invariant (omega (arith, c.requires.section_len))
