-- The items before this one have been written.
use mathlib.Core.List.{map}
use lib.ListN.{take}
use Rattle.paper.specs.Program.{items}
use Rattle.text.specs.Pages.{Adds}
use Rattle.text.proofs.page.Page.items.Given as goal

abbrev pub invariant-loop-number : goal.invariant-loop-number
invariant-loop-number g l = Adds (items (map g.I.Item.number (take l.number-index l.numbers))) l.initial.self l.self
