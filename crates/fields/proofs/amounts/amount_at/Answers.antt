-- `amount_at` meets its contract: its range is the paper's.
use mathlib.Core.Path.{ap, ◌∙◌}
use Rattle.paper.specs.declared.Refusal.TheVariants.{TooLarge}
use Rattle.paper.specs.TurnedDown.{bad_amount}
use Rattle.fields.specs.Answers.{thousands}
use Rattle.fields.proofs.FieldLaws.{answered}
use Rattle.fields.proofs.Ranges.{above}
use Rattle.fields.proofs.amounts.amount_at.Goals as goal

pub returns : goal.returns
unfolding bad_amount
returns c =
    let value = c.money_at-amount.ensures.0 in
    answered bad_amount TooLarge _ thousands _ c.field.ensures (above _ _ ∙ ap bad_amount value) (ap thousands value)
