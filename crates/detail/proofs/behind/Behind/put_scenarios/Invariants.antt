-- The scenarios before this one have their lines.
use Rattle.paper.specs.Detail.{scenario_lines}
use Rattle.arrays.specs.Rooms.{cell_by}
use Rattle.text.specs.Pages.{Adds}
use Rattle.detail.proofs.behind.Behind.put_scenarios.Given as goal

abbrev pub invariant-loop-scenario : goal.invariant-loop-scenario
invariant-loop-scenario l =
    Adds (scenario_lines (cell_by l.self.rates.now) (cell_by l.self.ledger.now) l.currency l.scenario) l.initial.page l.page
