-- `side_at` meets its contract: its range is the paper's.
use mathlib.Core.Path.{ap, ◌∙◌}
use mathlib.Core.Bool.{not}
use Rattle.paper.specs.declared.Refusal.TheVariants.{BadSide}
use Rattle.paper.specs.TurnedDown.{bad_side}
use Rattle.fields.specs.Answers.{as_it_is}
use Rattle.fields.proofs.FieldLaws.{answered}
use Rattle.fields.proofs.Ranges.{nat-contained}
use Rattle.fields.proofs.side_at.Goals as goal

pub returns : goal.returns
unfolding bad_side
returns c =
    let s = c.new.ensures in
    let value = c.byte_at-side.ensures in
    answered bad_side BadSide _ as_it_is _ c.field.ensures (ap not (c.contains.ensures.value ∙ nat-contained _ s.start s.end s.exhausted) ∙ ap bad_side value) value
