-- What the loop of `fill_report` keeps.
use Prim.Native.Nat.{◌≤◌}
use mathlib.Core.Path.{◌≡◌}
use Rattle.paper.specs.Records.{currencies}
use Rattle.arrays.specs.Masks.{last_of}
use Rattle.arrays.specs.Rooms.{totals_by}
use Rattle.valuation.proofs.Progress.{Done}
use Rattle.valuation.proofs.fill_report.Given as goal

abbrev pub invariant-loop-c : goal.invariant-loop-c
invariant-loop-c l =
    (l.last ≡ last_of l.curved) × (l.last ≤ currencies) × Done (totals_by l.ledger l.add_ons l.rates) l.c l.changes l.tolerances
