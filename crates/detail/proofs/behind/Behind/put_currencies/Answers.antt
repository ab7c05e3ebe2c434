-- The currencies before this one have their lines.
use Prim.Native.Nat.{◌-◌}
use mathlib.Core.Path.{◌≡◌}
use native.Mathlib.Omega.{arith}
use Rattle.paper.specs.Records.{currencies}
use Rattle.paper.specs.Program.{curved_lines}
use Rattle.arrays.specs.Masks.{curved_by}
use Rattle.text.proofs.Pages.{adds_none, adds_then}
use Rattle.text.proofs.CurvedLines.{lines_more}
use Rattle.detail.specs.Texts.{currency_in}
use Rattle.detail.proofs.Lengths.{currencies-length}
use Rattle.detail.proofs.behind.Behind.put_currencies.Goals as goal

pub loop-currency-init : goal.loop-currency-init
unfolding curved_lines
loop-currency-init c = adds_none _

pub put_curved-requires-clause-room : goal.put_curved-requires-clause-room
put_curved-requires-clause-room c =
    let behind = c.args.self.now in
    let loop = c.loop-currency in
    omega (arith, currencies-length behind.ledger.now behind.rates.now behind.add_ons.now behind.counts.now behind.curved (loop.currency - 1))

pub loop-currency-preserved : goal.loop-currency-preserved
loop-currency-preserved c =
    let behind = c.args.self.now in
    let loop = c.loop-currency in
    rw (lines_more (curved_by behind.curved) (currency_in behind) loop.currency (omega arith)) (adds_then loop.invariant c.put_curved.ensures)

pub returns : goal.returns
returns c =
    let loop = c.loop-currency in
    let all : loop.currency - 1 ≡ currencies = omega arith in
    rw all at loop.invariant
