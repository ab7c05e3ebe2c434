-- The whole, the point, the two digits after it.
use native.Mathlib.Omega.{arith}
use Prim.Native.Nat.{◌/◌}
use Rattle.paper.specs.Detail.{pointed}
use Rattle.text.proofs.Pages.{adds_then}
use Rattle.text.proofs.Decimals.{decimal-length}
use Rattle.text.proofs.page.Page.pointed.Goals as goal

pub byte-requires : goal.byte-requires
byte-requires c = omega (arith, decimal-length (c.args.n / 100))

pub byte-requires-2 : goal.byte-requires-2
byte-requires-2 c = omega (arith, decimal-length (c.args.n / 100))

pub byte-requires-3 : goal.byte-requires-3
byte-requires-3 c = omega (arith, decimal-length (c.args.n / 100))

pub returns : goal.returns
unfolding pointed
returns c =
    let tenths = rw c.digit.ensures at c.byte-2.ensures in
    let last = rw c.digit-2.ensures at c.byte-3.ensures in
    adds_then c.natural.ensures (adds_then c.byte.ensures (adds_then tenths last))
