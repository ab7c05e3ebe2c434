-- A scenario passed has the amount in its bucket; the cells of the others are as they were.
use Prim.Native.Nat.{◌+◌, ◌*◌, ◌-◌}
use mathlib.Core.Path.{sym}
use native.Mathlib.Omega.{arith}
use lib.IntN.{pos, +ℤ_idr}
use lib.ListN.{get_or}
use Rattle.posting.proofs.Loops.{joining-none, joining-rest, joining-more, joining-done}
use Rattle.posting.proofs.Sides.{sum_fits, column-here, column-elsewhere}
use Rattle.posting.proofs.cells.post.Goals as goal

pub loop-i-init : goal.loop-i-init
loop-i-init c = joining-none +ℤ_idr _ _

pub add_into-requires : goal.add_into-requires
add_into-requires c =
    let at = c.loop-i in
    let k = 19 * at.i + (c.args.bucket - 1) in
    let same = joining-rest +ℤ_idr at.invariant k (omega arith) (omega (arith, c.requires.section_len.2)) in
    record { at_in_bounds = omega (arith, c.requires.section_len.2); sfits = sum_fits (get_or at.section k (pos 0)) c.args.amount.0 (rw same (c.requires.fact k)) c.requires.amount_bound }

pub loop-i-preserved : goal.loop-i-preserved
loop-i-preserved c =
    let at = c.loop-i in
    let k = 19 * at.i + (c.args.bucket - 1) in
    rw c.add_into.ensures
    (joining-more +ℤ_idr at.invariant (19 * (at.i + 1)) k
    (sym (column-here c.args.bucket c.args.amount.0 c.requires.section_len.1 c.requires.section_len.2 at.i))
    (omega arith)
    (omega (arith, c.requires.section_len.2))
    (omega (arith, c.requires.section_len.2))
    (column-elsewhere c.args.bucket c.args.amount.0 c.requires.section_len.1 c.requires.section_len.2 at.i))

pub returns : goal.returns
returns c =
    joining-done +ℤ_idr c.loop-i.invariant (omega (arith, c.requires.section_len.0))
