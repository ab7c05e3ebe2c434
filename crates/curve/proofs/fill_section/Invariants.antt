-- What the loop of `fill_section` keeps.
use lib.IntN.{pos}
use Rattle.laws.proofs.Filling.{Rows}
use Rattle.paper.specs.Ladder.{buckets}
use Rattle.paper.specs.Curve.{shocked_rate}
use Rattle.paper.specs.Ledger.{section_size}
use Rattle.curve.specs.Shocked.{curve_of}
use Rattle.curve.proofs.fill_section.Given as goal

abbrev pub invariant-loop-scenario : goal.invariant-loop-scenario
invariant-loop-scenario l = Rows (pos 0) (shocked_rate (curve_of l.rates l.fn.shocks)) buckets section_size l.scenario l.section
