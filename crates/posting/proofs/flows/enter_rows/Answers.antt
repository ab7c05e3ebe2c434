-- The row that each scenario has: its sum is tested, and the rows entered.
use mathlib.Core.Path.{refl, sym}
use borrow.Author.Rules.{rules}
use Rattle.paper.specs.Flow.{scenarios}
use Rattle.posting.specs.Parts.{row_sum, trillion}
use Rattle.posting.proofs.Limit.{entered-done, entered-not}
use Rattle.posting.proofs.Loops.{row_small, row_at}
use Rattle.posting.proofs.flows.enter_rows.Goals as goal

pub admit-requires-clause-at_most_2 : goal.admit-requires-clause-at_most_2
admit-requires-clause-at_most_2 c =
    row_small (row_sum c.args.sums.now c.args.which.now) scenarios trillion c.scenario_sums.ensures (λ i l. c.requires.row_parts.sums-small _)

pub returns-in_err-admit : goal.returns-in_err-admit
returns-in_err-admit c =
    entered-not _ c.args.side _ c.requires.flow_parts.sizes-long (λ i l. sym (row_at (row_sum c.args.sums.now c.args.which.now) scenarios c.scenario_sums.ensures i l)) c.admit.ensures c.in_err-admit.was (search rules) refl

pub returns : goal.returns
returns c =
    entered-done _ c.args.side _ c.requires.flow_parts.sizes-long (λ i l. sym (row_at (row_sum c.args.sums.now c.args.which.now) scenarios c.scenario_sums.ensures i l)) c.admit.ensures c.in_ok-admit.was refl c.add_rows.ensures
