-- What the loop of `scenario_sum` keeps.
use Prim.Native.Nat.{suc}
use mathlib.Core.Path.{◌≡◌}
use Rattle.laws.specs.Integers.{up}
use Rattle.laws.specs.Sums.{sum}
use Rattle.arrays.specs.Rooms.{listed}
use Rattle.verdict.proofs.measure.scenario_sum.Given as goal

abbrev pub invariant-loop-c : goal.invariant-loop-c
invariant-loop-c l = l.total.0 ≡ sum (λ d. up (listed l.changes (suc d) l.scenario)) l.c
