-- The lines of the currencies before this one have been written.
use Prim.Native.Nat.{◌-◌}
use Rattle.paper.specs.Program.{changes_line, curved_lines}
use Rattle.arrays.specs.Masks.{curved_by}
use Rattle.text.specs.Pages.{Adds}
use Rattle.text.proofs.page.Page.all_changes.Given as goal

abbrev pub invariant-loop-currency : goal.invariant-loop-currency
invariant-loop-currency l =
    Adds (curved_lines (curved_by l.curved) (changes_line l.report) (l.currency - 1)) l.initial.self l.self
