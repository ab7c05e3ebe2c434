-- `days_at` meets its contract: its range is the paper's.
use mathlib.Core.Path.{ap, ◌∙◌}
use Rattle.paper.specs.declared.Refusal.TheVariants.{BadTerm}
use Rattle.paper.specs.TurnedDown.{bad_days}
use Rattle.fields.specs.Answers.{as_it_is}
use Rattle.fields.proofs.FieldLaws.{answered}
use Rattle.fields.proofs.Ranges.{above}
use Rattle.fields.proofs.days_at.Goals as goal

pub returns : goal.returns
unfolding bad_days
returns c =
    let value = c.byte_at-days.ensures in
    answered bad_days BadTerm _ as_it_is _ c.field.ensures (above _ _ ∙ ap bad_days value) value
