-- `months_at` meets its contract: its range is the paper's.
use mathlib.Core.Path.{ap, ◌∙◌}
use Rattle.paper.specs.declared.Refusal.TheVariants.{BadTerm}
use Rattle.paper.specs.TurnedDown.{bad_months}
use Rattle.fields.specs.Answers.{as_it_is}
use Rattle.fields.proofs.FieldLaws.{answered}
use Rattle.fields.proofs.Ranges.{above}
use Rattle.fields.proofs.months_at.Goals as goal

pub returns : goal.returns
unfolding bad_months
returns c =
    let value = c.two_at-months.ensures.0 in
    answered bad_months BadTerm _ as_it_is _ c.field.ensures (above _ _ ∙ ap bad_months value) value
