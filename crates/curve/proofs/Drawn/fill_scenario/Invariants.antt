-- What the loop of `fill_scenario` keeps.
use lib.IntN.{pos}
use Rattle.laws.proofs.Filling.{Filled}
use Rattle.paper.specs.Curve.{shocked_rate}
use Rattle.curve.specs.Shocked.{curve_of}
use Rattle.curve.proofs.Drawn.fill_scenario.Given as goal

abbrev pub invariant-loop-k : goal.invariant-loop-k
invariant-loop-k l = Filled (pos 0) l.k (shocked_rate (curve_of l.self.rates.now l.self.shocks) l.scenario) l.part
