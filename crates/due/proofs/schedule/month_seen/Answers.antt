-- `month_seen` meets its contract.
use native.Mathlib.Numerals.{add-one}
use borrow.Author.Tests.{eq-eqb, ne_eqb}
use Rattle.due.specs.Schedules.{month_seen}
use Rattle.due.proofs.schedule.month_seen.Goals as goal

pub returns-then-days-eq0 : goal.returns-then-days-eq0
unfolding month_seen
returns-then-days-eq0 c = rw (eq-eqb c.args.days 0 c.if-days-eq0.true)

pub returns-else-days-eq0 : goal.returns-else-days-eq0
unfolding month_seen
returns-else-days-eq0 c = rw (ne_eqb c.args.days 0 c.if-days-eq0.false) (add-one c.args.months)
