-- What the loop of `greatest_sum` keeps.
use Prim.Native.Nat.{◌-◌}
use Rattle.paper.specs.Records.{currencies}
use Rattle.paper.specs.Verdict.{scenario_sum}
use Rattle.arrays.specs.Rooms.{listed}
use Rattle.laws.proofs.Scan.{Scanned}
use Rattle.verdict.proofs.measure.greatest_sum.Given as goal

abbrev pub invariant-loop-scenario : goal.invariant-loop-scenario
invariant-loop-scenario l = Scanned (scenario_sum currencies (listed l.changes)) (l.scenario - 1) l.greatest.0 l.reached
