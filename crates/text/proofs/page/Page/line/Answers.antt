-- The letter, the heads, the other items, the newline.
use native.Mathlib.Omega.{arith}
use lib.IntN.{pos}
use Rattle.text.proofs.Pages.{adds_then}
use Rattle.text.proofs.Items.{line-of, mapped-length}
use Rattle.text.proofs.page.Page.line.Goals as goal

pub items-requires-2 : goal.items-requires-2
items-requires-2 g c = omega (arith, mapped-length pos c.args.heads.now)

pub byte-requires-2 : goal.byte-requires-2
byte-requires-2 g c =
    omega (arith, mapped-length pos c.args.heads.now, mapped-length g.I.Item.number c.args.numbers.now)

pub returns : goal.returns
returns g c =
    rw line-of (adds_then c.byte.ensures (adds_then c.items.ensures (adds_then c.items-2.ensures c.byte-2.ensures)))
