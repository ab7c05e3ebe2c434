-- The currencies' lines, then the book's.
use native.Mathlib.Omega.{arith}
use lib.ListN.{length-append}
use Rattle.paper.specs.Records.{currencies}
use Rattle.paper.specs.Program.{curved_lines}
use Rattle.paper.specs.Detail.{closing_text}
use Rattle.arrays.specs.Masks.{curved_by}
use Rattle.text.proofs.Pages.{adds_then}
use Rattle.detail.specs.Texts.{currency_in}
use Rattle.detail.proofs.Lengths.{currencies-length, closing-length}
use Rattle.detail.proofs.behind.Behind.put.Goals as goal

pub put_closing-requires : goal.put_closing-requires
put_closing-requires c =
    let behind = c.args.self.now in
    omega (arith, currencies-length behind.ledger.now behind.rates.now behind.add_ons.now behind.counts.now behind.curved currencies)

pub returns : goal.returns
returns c =
    let behind = c.args.self.now in
    let standing = c.args.standing.now in
    record {
      text = adds_then c.put_currencies.ensures c.put_closing.ensures;
      longest = omega (
        arith,
        length-append (curved_lines (curved_by behind.curved) (currency_in behind) currencies) (closing_text c.args.count standing.measure.0 standing.tier1.0),
        currencies-length behind.ledger.now behind.rates.now behind.add_ons.now behind.counts.now behind.curved currencies,
        closing-length c.args.count standing.measure.0 standing.tier1.0,
      );
    }
