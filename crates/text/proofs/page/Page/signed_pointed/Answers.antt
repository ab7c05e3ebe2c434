-- The sign below zero, then the hundredths of the magnitude.
use mir.Facts.{to_z-of_z}
use Rattle.paper.specs.Detail.{pointed}
use Rattle.text.proofs.Pages.{adds_then}
use Rattle.text.proofs.Decimals.{sign_below, sign-not-below}
use Rattle.text.proofs.page.Page.signed_pointed.Goals as goal
use Rattle.text.proofs.page.Page.signed_pointed.Goals.{then-z-lt0, else-z-lt0}

pub returns : goal.returns
returns c =
    let z = c.args.z in
    let size = rw (to_z-of_z c.ranges.z) at c.unsigned_abs.ensures.value in
    let hundredths = rw size at c.pointed.ensures in
    elim c.if-z-lt0.branch [
      | then-z-lt0 w ↦ rw (sign_below pointed z (rw (to_z-of_z c.ranges.z) at w.if-z-lt0.true)) (adds_then w.byte.ensures (rw w.self-is at hundredths))
      | else-z-lt0 w ↦ rw (sign-not-below pointed z (rw (to_z-of_z c.ranges.z) at w.if-z-lt0.false)) (rw w.self-is at hundredths)
    ]
