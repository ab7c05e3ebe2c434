-- `option_at` meets its contract: a magnitude above the limit is a value outside a range.
use mathlib.Core.Path.{sym, ap, ◌∙◌}
use mathlib.Core.Bool.{not}
use mir.Syntax.{w64}
use Rattle.laws.proofs.Widths.{back}
use Rattle.paper.specs.declared.Refusal.TheVariants.{TooLarge}
use Rattle.paper.specs.TurnedDown.{bad_option}
use Rattle.fields.specs.Answers.{signed_thousands}
use Rattle.fields.proofs.FieldLaws.{answered, option-outside}
use Rattle.fields.proofs.Ranges.{int-contained}
use Rattle.fields.proofs.options.option_at.Goals as goal

pub returns : goal.returns
returns c =
    let s = c.new.ensures in
    let value = back w64 _ c.signed_at.type_inv ∙ c.signed_at.ensures in
    answered bad_option TooLarge _ signed_thousands _ c.field.ensures
    (ap not c.contains.ensures.value ∙ int-contained _ s.start s.end s.exhausted ∙ sym (option-outside _) ∙ ap bad_option value) (ap signed_thousands value)
