-- The currencies before this one have their lines.
use Prim.Native.Nat.{◌-◌}
use Rattle.paper.specs.Program.{curved_lines}
use Rattle.arrays.specs.Masks.{curved_by}
use Rattle.text.specs.Pages.{Adds}
use Rattle.detail.specs.Texts.{currency_in}
use Rattle.detail.proofs.behind.Behind.put_currencies.Given as goal

abbrev pub invariant-loop-currency : goal.invariant-loop-currency
invariant-loop-currency l =
    Adds (curved_lines (curved_by l.self.curved) (currency_in l.self) (l.currency - 1)) l.initial.page l.page
