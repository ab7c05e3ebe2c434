-- The lines one after the other.
use Prim.Native.Nat.{ℕ, ◌+◌, ◌*◌, ◌-◌, ◌≤◌}
use mathlib.Core.Path.{◌≡◌}
use native.Mathlib.Nat.{div-le_self}
use native.Mathlib.Omega.{arith}
use lib.IntN.{pos}
use mir.Facts.{to_z_pos}
use mir.Syntax.{w64}
use mir.Val.{to_z, of_z}
use Rattle.laws.specs.Nearest.{rounded_up}
use Rattle.laws.proofs.Widths.{sfits-abs, back}
use Rattle.paper.specs.Detail.{share, closing_text}
use Rattle.text.proofs.Pages.{adds_then}
use Rattle.text.proofs.Decimals.{pointed-line-length}
use Rattle.detail.proofs.Lengths.{natural-length}
use Rattle.detail.proofs.standing.put_closing.Goals as goal

share-most : (m T : ℕ) → share m T ≤ 10000 * m + (T - 1)
unfolding share rounded_up
share-most m T = div-le_self (10000 * m + (T - 1)) T

pub line-requires-2 : goal.line-requires-2
line-requires-2 c =
    omega (arith, natural-length 78 c.args.count)

pub pointed_line-requires : goal.pointed_line-requires
pointed_line-requires c =
    omega (arith, natural-length 78 c.args.count, natural-length 84 c.args.standing.now.tier1.0)

pub pointed_line-requires-2 : goal.pointed_line-requires-2
pointed_line-requires-2 c =
    omega (
      arith,
      natural-length 78 c.args.count,
      natural-length 84 c.args.standing.now.tier1.0,
      pointed-line-length 76 (to_z w64 (of_z w64 c.limit.result)),
    )

pub overflow_cast-share : goal.overflow_cast-share
overflow_cast-share c =
    sfits-abs (pos c.share.result) (omega (arith, c.share.ensures, share-most c.args.standing.now.measure.0 c.args.standing.now.tier1.0))

pub pointed_line-requires-3 : goal.pointed_line-requires-3
pointed_line-requires-3 c =
    omega (
      arith,
      natural-length 78 c.args.count,
      natural-length 84 c.args.standing.now.tier1.0,
      pointed-line-length 76 (to_z w64 (of_z w64 c.limit.result)),
      pointed-line-length 72 (to_z w64 (of_z w64 c.headroom.result)),
    )

pub returns : goal.returns
unfolding closing_text
returns c =
    let limits = rw (back w64 _ c.limit.type_inv, c.limit.ensures) at c.pointed_line.ensures in
    let headrooms = rw (back w64 _ c.headroom.type_inv, c.headroom.ensures) at c.pointed_line-2.ensures in
    let shared : to_z w64 c.share.result ≡ pos (share c.args.standing.now.measure.0 c.args.standing.now.tier1.0) =
    rw c.share.ensures (to_z_pos w64 {n = share c.args.standing.now.measure.0 c.args.standing.now.tier1.0} (omega (arith, share-most c.args.standing.now.measure.0 c.args.standing.now.tier1.0))) in
    let shares = rw shared at c.pointed_line-3.ensures in
    adds_then c.line.ensures (adds_then c.line-2.ensures (adds_then limits (adds_then headrooms shares)))
