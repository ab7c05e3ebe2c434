-- The lines of a currency one after the other.
use Prim.Native.Nat.{◌+◌, ◌*◌, ◌-◌}
use mathlib.Core.List.{◌∷◌}
use mathlib.Core.Path.{◌≡◌}
use native.Mathlib.Omega.{arith}
use lib.IntN.{pos}
use Rattle.std.proofs.lemmas.List.{map-id}
use Rattle.laws.specs.Lists.{section}
use Rattle.laws.proofs.Sections.{length-section}
use Rattle.paper.specs.Records.{kind_count}
use Rattle.paper.specs.Flow.{scenarios, shocked}
use Rattle.paper.specs.Detail.{currency_text}
use Rattle.arrays.specs.Rooms.{cell_by}
use Rattle.text.proofs.Pages.{adds_then}
use Rattle.text.proofs.Items.{line-length}
use Rattle.detail.specs.Texts.{totals_in}
use Rattle.detail.proofs.Lines.{add_ons-of, counts_of-section}
use Rattle.detail.proofs.Lengths.{scenarios-length, tolerances-length}
use Rattle.detail.proofs.behind.Behind.put_currency.Goals as goal

pub put_scenarios-requires-clause-room : goal.put_scenarios-requires-clause-room
put_scenarios-requires-clause-room c =
    omega (arith, tolerances-length (totals_in c.args.self.now) c.args.currency)

pub line-requires : goal.line-requires
line-requires c =
    let behind = c.args.self.now in
    let six = shocked * (c.args.currency - 1) in
    omega (
      arith,
      tolerances-length (totals_in behind) c.args.currency,
      scenarios-length (cell_by behind.rates.now) (cell_by behind.ledger.now) c.args.currency scenarios,
      length-section six (six + shocked - six) behind.add_ons.now (omega (arith, behind.lengths.add_ons-long)),
    )

pub line-requires-2 : goal.line-requires-2
line-requires-2 c =
    let behind = c.args.self.now in
    let six = shocked * (c.args.currency - 1) in
    let ten = kind_count * (c.args.currency - 1) in
    let adds = rw (c.from.ensures, map-id) at c.line.ensures in
    omega (
      arith,
      tolerances-length (totals_in behind) c.args.currency,
      scenarios-length (cell_by behind.rates.now) (cell_by behind.ledger.now) c.args.currency scenarios,
      adds.wrote.next-is,
      adds.same_length,
      line-length 65 (pos c.args.currency ∷ section six (six + shocked - six) behind.add_ons.now),
      length-section six (six + shocked - six) behind.add_ons.now (omega (arith, behind.lengths.add_ons-long)),
      length-section ten (ten + kind_count - ten) behind.counts.now (omega (arith, behind.lengths.counts-long)),
    )

pub returns : goal.returns
unfolding currency_text
returns c =
    let behind = c.args.self.now in
    let currency = c.args.currency in
    let six : shocked * (currency - 1) + shocked - shocked * (currency - 1) ≡ shocked = omega arith in
    let ten : kind_count * (currency - 1) + kind_count - kind_count * (currency - 1) ≡ kind_count = omega arith in
    let adds = rw (c.from.ensures, map-id, six, add_ons-of behind.add_ons.now currency (omega (arith, behind.lengths.add_ons-long))) at c.line.ensures in
    let kinds = rw (c.from.ensures, map-id, ten, counts_of-section behind.counts.now currency (omega (arith, behind.lengths.counts-long))) at c.line-2.ensures in
    adds_then c.put_tolerances.ensures (adds_then c.put_scenarios.ensures (adds_then adds kinds))
