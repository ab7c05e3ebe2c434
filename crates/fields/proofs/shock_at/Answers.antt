-- `shock_at` meets its contract: its range is the paper's.
use mathlib.Core.Path.{ap, ◌∙◌}
use Rattle.paper.specs.declared.Refusal.TheVariants.{OutOfRange}
use Rattle.paper.specs.TurnedDown.{bad_shock}
use Rattle.fields.specs.Answers.{as_it_is}
use Rattle.fields.proofs.FieldLaws.{answered}
use Rattle.fields.proofs.Ranges.{above}
use Rattle.fields.proofs.shock_at.Goals as goal

pub returns : goal.returns
unfolding bad_shock
returns c =
    let value = c.two_at-shock.ensures.0 in
    answered bad_shock OutOfRange _ as_it_is _ c.field.ensures (above _ _ ∙ ap bad_shock value) value
