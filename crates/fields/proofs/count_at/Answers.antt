-- `count_at` meets its contract: a count is below 65,536, so its product with any period, after any start, fits 64 bits.
use mathlib.Core.Path.{◌≡◌, ap, ◌∙◌}
use mathlib.Core.Bool.{not}
use borrow.Author.Tests.{lt-ltb, le-ltb, lt-leb}
use Rattle.paper.specs.declared.Refusal.TheVariants.{BadTerm}
use Rattle.paper.specs.TurnedDown.{bad_count}
use Rattle.fields.specs.Answers.{as_it_is}
use Rattle.fields.proofs.FieldLaws.{answered}
use Rattle.fields.proofs.Ranges.{above}
use Rattle.fields.proofs.count_at.Goals as goal
use Rattle.fields.proofs.count_at.Goals.{then-count-ge1, else-count-ge1}

tested : (c : goal.After-field) → not c.if-count-ge1.field ≡ bad_count c.args.start c.args.period c.two_at-count.result
unfolding bad_count
tested c =
    elim c.if-count-ge1.branch [
      | then-count-ge1 w ↦ rw (w.field-is, c.from.ensures, c.from-2.ensures, c.from-3.ensures, le-ltb _ _ w.if-count-ge1.true) (above _ _)
      | else-count-ge1 w ↦ rw (w.field-is, lt-leb _ _ w.if-count-ge1.false, lt-ltb _ _ w.if-count-ge1.false)
    ]

pub returns : goal.returns
returns c =
    let value = c.two_at-count.ensures.0 in
    answered (bad_count _ _) BadTerm _ as_it_is _ c.field.ensures (tested c ∙ ap (bad_count c.args.start c.args.period) value) value
