-- `widen`: 18, or the report in its room.
use Prim.Native.Nat.{◌≤◌}
use mathlib.Core.List.{List, ◌++◌}
use mathlib.Core.Path.{◌≡◌, sym, ap, ◌∙◌}
use borrow.Author.Rules.{rules}
use lib.IntN.{ℤ}
use lib.ListN.{length, drop}
use lib.Seq.{length-take-le}
use Rattle.paper.specs.Records.{currencies}
use Rattle.paper.specs.Ledger.{figures}
use Rattle.paper.specs.Stored.{stored_currencies}
use Rattle.stored.proofs.Widening.{widens, widen-refused, widen-written}
use Rattle.stored.proofs.widen.Goals as goal
use Rattle.stored.proofs.widen.Goals.{Else-cannot_widen}

-- both are as long as they must be
lengths : (c : Else-cannot_widen) → (length c.args.stored.now ≡ figures stored_currencies) × (figures currencies ≤ length c.args.report.now)
lengths c = widens _ _ (sym c.cannot_widen.ensures ∙ c.if-cannot_widen.false)

pub returns-then-cannot_widen : goal.returns-then-cannot_widen
returns-then-cannot_widen c = let w = widen-refused _ _ (sym c.cannot_widen.ensures ∙ c.if-cannot_widen.true) in record { widens = w.0; as_fresh = w.1 }

pub slice_bounds-write_widened-end : goal.slice_bounds-write_widened-end
slice_bounds-write_widened-end c = let long = lengths c in search (rules, long)

pub write_widened-requires : goal.write_widened-requires
write_widened-requires c =
    let long = lengths (goal.at.write_widened-requires c).Else-cannot_widen in
    (long.0, length-take-le (figures currencies) c.args.report.now long.1)

pub returns : goal.returns
returns c = let w = widen-written _ _ (sym c.cannot_widen.ensures ∙ c.if-cannot_widen.false) (ap (λ (l : List ℤ). l ++ drop (figures currencies) c.args.report.now) c.write_widened.ensures) in record { widens = w.0; as_fresh = w.1 }
