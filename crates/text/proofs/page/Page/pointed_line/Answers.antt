-- The letter, a space, the hundredths, the newline.
use native.Mathlib.Omega.{arith}
use mir.Facts.{to_z-of_z}
use Rattle.paper.specs.Detail.{pointed, pointed_line}
use Rattle.text.proofs.Pages.{adds_then}
use Rattle.text.proofs.Decimals.{sign-length, pointed-length}
use Rattle.text.proofs.page.Page.pointed_line.Goals as goal

pub byte-requires-3 : goal.byte-requires-3
byte-requires-3 c =
    let hundredths = rw (to_z-of_z c.ranges.z) at c.signed_pointed.ensures in
    omega (arith, hundredths.wrote.next-is, hundredths.same_length, sign-length pointed 23 pointed-length c.args.z)

pub returns : goal.returns
unfolding pointed_line
returns c =
    let hundredths = rw (to_z-of_z c.ranges.z) at c.signed_pointed.ensures in
    adds_then c.byte.ensures (adds_then c.byte-2.ensures (adds_then hundredths c.byte-3.ensures))
