-- The tolerances of the currency's own part of the ledger, in a line.
use Prim.Native.Nat.{ℕ, ◌+◌, ◌*◌, ◌-◌}
use mathlib.Core.Path.{◌≡◌, ◌∙◌}
use native.Mathlib.Omega.{arith}
use Rattle.std.proofs.lemmas.List.{map-id}
use Rattle.paper.specs.Ledger.{section_size}
use Rattle.change.proofs.CurrencyParts.{net-alone}
use Rattle.detail.proofs.Lines.{net-of, tolerances-of, tolerances-alone}
use Rattle.detail.proofs.behind.Behind.put_tolerances.Goals as goal

cells_count : (c : ℕ) → section_size * (c - 1) + section_size - section_size * (c - 1) ≡ section_size
cells_count c = omega arith

pub fill_tolerances-requires-clause-by_index : goal.fill_tolerances-requires-clause-by_index
fill_tolerances-requires-clause-by_index c =
    let behind = c.args.self.now in
    let ledger = behind.ledger.now in
    let currency = c.args.currency in
    let bounded = behind.bounds.bounded currency (omega arith) (omega arith) c.requires.le_currency.2 in
    rw (cells_count currency)
    (λ i l. omega (arith, net-of ledger currency i (omega arith) l, net-alone ledger behind.add_ons.now behind.rates.now currency i, (bounded.rows i l).net))

pub returns : goal.returns
returns c =
    let behind = c.args.self.now in
    let ledger = behind.ledger.now in
    let currency = c.args.currency in
    let filled = rw (cells_count currency) at c.fill_tolerances.ensures in
    rw (← tolerances-alone ledger behind.add_ons.now behind.rates.now currency)
    (rw (c.from.ensures, map-id, filled ∙ tolerances-of ledger currency (omega arith)) at c.line.ensures)
