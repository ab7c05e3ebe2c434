-- What the loop of `add_values` keeps.
use mathlib.Core.Path.{◌≡◌}
use lib.IntN.{pos, ◌+ℤ◌}
use lib.ListN.{length, get_or}
use Rattle.paper.specs.Flow.{sided}
use Rattle.posting.proofs.Loops.{Joining}
use Rattle.slotting.proofs.option_add_on.add_values.Given as goal

abbrev pub invariant-loop-j : goal.invariant-loop-j
invariant-loop-j l =
    (length l.addons ≡ length l.initial.addons) × Joining ◌+ℤ◌ (pos 0) l.j (λ k. sided l.side (get_or l.values k (pos 0))) l.initial.addons l.addons
