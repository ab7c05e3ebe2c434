-- `period_at` meets its contract: the four that are good are the four periods.
use mathlib.Core.Path.{◌≡◌, sym, ap, ◌∙◌}
use mathlib.Core.Bool.{not}
use Rattle.std.proofs.Common.{rules}
use Rattle.paper.specs.declared.Refusal.TheVariants.{BadTerm}
use Rattle.paper.specs.TurnedDown.{bad_period}
use Rattle.fields.specs.Answers.{as_it_is}
use Rattle.fields.proofs.FieldLaws.{answered, period-listed, period-unlisted}
use Rattle.fields.proofs.period_at.Goals as goal
use Rattle.fields.proofs.period_at.Goals.{in-1, in_default}

tested : (c : goal.After-field) → not c.match-matches.matches ≡ bad_period c.byte_at-period.result
unfolding bad_period
tested c = elim c.match-matches.branch [ in-1 w ↦ rw (w.matches-is, period-listed _ w.in-1.is) | in_default w ↦ rw (w.matches-is) (sym (period-unlisted c.byte_at-period.result (search rules))) ]

pub returns : goal.returns
returns c =
    let value = c.byte_at-period.ensures in
    answered bad_period BadTerm _ as_it_is _ c.field.ensures (tested c ∙ ap bad_period value) value
