-- `category_at` meets its contract: its range is the paper's.
use mathlib.Core.Path.{ap, ◌∙◌}
use mathlib.Core.Bool.{not}
use Rattle.paper.specs.declared.Refusal.TheVariants.{BadCategory}
use Rattle.paper.specs.TurnedDown.{bad_category}
use Rattle.fields.specs.Answers.{as_it_is}
use Rattle.fields.proofs.FieldLaws.{answered}
use Rattle.fields.proofs.Ranges.{nat-contained}
use Rattle.fields.proofs.category_at.Goals as goal

pub returns : goal.returns
unfolding bad_category
returns c =
    let s = c.new.ensures in
    let value = c.byte_at-category.ensures in
    answered bad_category BadCategory _ as_it_is _ c.field.ensures (ap not (c.contains.ensures.value ∙ nat-contained _ s.start s.end s.exhausted) ∙ ap bad_category value) value
