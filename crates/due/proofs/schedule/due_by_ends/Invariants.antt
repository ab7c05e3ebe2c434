-- What the loop of `due_by_ends` keeps.
use Prim.Native.Nat.{◌-◌, ◌*◌, ◌/◌, min}
use mathlib.Core.Path.{◌≡◌}
use lib.ListN.{length, get_or}
use Rattle.laws.proofs.Filling.{Filled}
use Rattle.due.specs.Schedules.{month_ends}
use Rattle.due.proofs.schedule.due_by_ends.Given as goal

abbrev pub invariant-loop-k : goal.invariant-loop-k
invariant-loop-k l =
    (length l.by ≡ 19) × Filled 0 l.k (λ j. min l.count ((get_or month_ends j 0 - l.start) * l.share / 65536)) l.by
