-- What the loop of `loan_rows` keeps: the courses at the buckets passed.
use mathlib.Core.Path.{◌≡◌}
use Rattle.laws.specs.Lists.{tabulate}
use Rattle.paper.specs.Behaviour.{behavioural_rate, scheduled_at}
use Rattle.fields.specs.Answers.{amounts_from}
use Rattle.behaviour.specs.Rows.{three_multipliers}
use Rattle.behaviour.specs.Columns.{CoursesReached, rates}
use Rattle.behaviour.proofs.loan.loan_rows.Given as goal

abbrev pub invariant-loop-k : goal.invariant-loop-k
invariant-loop-k l = record {
  at_rates : rates l.courses ≡ tabulate (behavioural_rate three_multipliers l.fn.share) 3;
  reached : CoursesReached l.body (λ _. l.k) l.courses l.rows;
  left : l.remaining.0 ≡ scheduled_at (amounts_from l.body 3) l.k;
}
