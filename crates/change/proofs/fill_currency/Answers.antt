-- `fill_currency` meets its contract: the currency's own parts are read as currency 1's, and what comes back stands in its place of each list.
use Prim.Native.Nat.{ℕ, ◌+◌, ◌*◌, ◌-◌}
use mathlib.Core.List.{List}
use mathlib.Core.Path.{◌≡◌, sym, ap, ◌∙◌}
use native.Mathlib.Omega.{arith}
use lib.IntN.{ℤ}
use Rattle.laws.specs.Lists.{tabulate_from, section, splice}
use Rattle.laws.proofs.Lists.{tabulate_from-ext}
use Rattle.paper.specs.Flow.{shocked}
use Rattle.paper.specs.Ledger.{section_size, Totals}
use Rattle.paper.specs.Change.{change}
use Rattle.arrays.specs.Rooms.{totals_by}
use Rattle.change.specs.Bounds.{Bounded}
use Rattle.change.proofs.Agreement.{SameCurrency, currency-bounded, change-same}
use Rattle.change.proofs.CurrencyParts.{part_of, part-net, part-tolerances}
use Rattle.change.proofs.fill_currency.Goals as goal

-- the currency's own parts
module _ (ledger rates add_ons : List ℤ) (c : ℕ) where
  abbrev t : Totals
  t = totals_by ledger add_ons rates

  abbrev own : Totals
  own = totals_by (section (section_size * c) section_size ledger) (section (shocked * c) shocked add_ons) (section (section_size * c) section_size rates)

  same : SameCurrency t (c + 1) own 1
  same = part_of ledger rates add_ons c

  bounded : Bounded t (c + 1) → Bounded own 1
  bounded b = currency-bounded same b

  six-changes : tabulate_from (change own 1) 1 shocked ≡ tabulate_from (change t (c + 1)) 1 shocked
  six-changes = tabulate_from-ext _ _ 1 shocked (λ i p l. sym (change-same same i p (omega arith)))

cells_count : (c : ℕ) → section_size * c + section_size - section_size * c ≡ section_size
cells_count c = omega arith

six-count : (c : ℕ) → shocked * c + shocked - shocked * c ≡ shocked
six-count c = omega arith

pub fill_changes-requires-clause-bounded : goal.fill_changes-requires-clause-bounded
fill_changes-requires-clause-bounded c =
    rw (cells_count c.args.c, six-count c.args.c) (bounded c.args.ledger.now c.args.rates.now c.args.add_ons.now c.args.c c.requires.bounded)

pub fill_tolerances-requires-clause-by_index : goal.fill_tolerances-requires-clause-by_index
fill_tolerances-requires-clause-by_index c =
    rw (cells_count c.args.c) (λ i l. omega (arith, part-net c.args.ledger.now c.args.rates.now c.args.add_ons.now c.args.c i l, (c.requires.bounded.rows i l).net))

pub returns-clause-changes_after : goal.returns-clause-changes_after
returns-clause-changes_after c =
    let filled = rw (cells_count c.args.c, six-count c.args.c) at c.fill_changes.ensures in
    rw (six-count c.args.c)
    (ap (λ (l : List ℤ). splice (shocked * c.args.c) shocked c.args.changes.now l)
    (filled ∙ six-changes c.args.ledger.now c.args.rates.now c.args.add_ons.now c.args.c))

pub returns-clause-tolerances_after : goal.returns-clause-tolerances_after
returns-clause-tolerances_after c =
    let tolerated = rw (cells_count c.args.c) at c.fill_tolerances.ensures in
    rw (six-count c.args.c)
    (ap (λ (l : List ℤ). splice (shocked * c.args.c) shocked c.args.tolerances.now l)
    (tolerated ∙ part-tolerances c.args.ledger.now c.args.rates.now c.args.add_ons.now c.args.c))
