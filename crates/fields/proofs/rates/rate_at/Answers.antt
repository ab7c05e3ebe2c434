-- `rate_at` meets its contract: its range is that of a rate.
use mathlib.Core.Path.{ap, ◌∙◌}
use mathlib.Core.Bool.{not}
use mir.Syntax.{w64}
use Rattle.laws.proofs.Widths.{back}
use Rattle.paper.specs.declared.Refusal.TheVariants.{OutOfRange}
use Rattle.paper.specs.TurnedDown.{bad_rate}
use Rattle.fields.specs.Answers.{millionths}
use Rattle.fields.proofs.FieldLaws.{answered}
use Rattle.fields.proofs.Ranges.{int-contained}
use Rattle.fields.proofs.rates.rate_at.Goals as goal

pub returns : goal.returns
unfolding bad_rate
returns c =
    let s = c.new.ensures in
    let value = back w64 _ c.signed_at.type_inv ∙ c.signed_at.ensures in
    answered bad_rate OutOfRange _ millionths _ c.field.ensures (ap not c.contains.ensures.value ∙ int-contained _ s.start s.end s.exhausted ∙ ap bad_rate value) (ap millionths value)
