-- What the loop of `six_sums` keeps.
use Prim.Native.Nat.{◌+◌}
use mathlib.Core.Path.{◌≡◌}
use lib.IntN.{pos}
use lib.ListN.{length}
use Rattle.laws.proofs.Filling.{Filled}
use Rattle.paper.specs.Records.{currencies}
use Rattle.paper.specs.Verdict.{scenario_sum}
use Rattle.arrays.specs.Rooms.{listed}
use Rattle.valuation.proofs.report.six_sums.Given as goal

abbrev pub invariant-loop-i : goal.invariant-loop-i
invariant-loop-i l = (length l.sums ≡ 6) × Filled (pos 0) l.i (λ j. pos (scenario_sum currencies (listed l.changes) (j + 1))) l.sums
