-- `enter_curve`: a refusal is passed on, a curve's rates are filled in.
use Rattle.fields.proofs.Reading.{handed}
use mathlib.Core.List.{List}
use mathlib.Core.Path.{◌≡◌, refl, ap, ◌∙◌}
use lib.IntN.{ℤ}
use Rattle.curve.specs.Shocked.{curve_of, shocked_section}
use Rattle.record.specs.declared.curves.Curve.{Curve}
use Rattle.std.specs.Prelude.{Ok}
use Rattle.paper.specs.Refusals.{checked_as}
use Rattle.record.specs.Answers.{curve_record}
use Rattle.slotting.specs.Parts.{Enterable}
use Rattle.slotting.proofs.Rates.{base-is, curve-taken, curve-refused}
use Rattle.slotting.proofs.curves.enter_curve.Goals as goal
use Rattle.slotting.proofs.curves.enter_curve.Goals.{In_ok-curve}

-- what is known once a curve was read
module _ (c : In_ok-curve) where
  abbrev fields : Curve
  fields = c.in_ok-curve.curve

  abbrev ready : Enterable c.args.decoded c.args.body.now c.args.from c.args.rates.now
  ready = c.requires.enterable

  given : c.args.decoded ≡ Ok fields
  given = c.in_ok-curve.was

pub fill_section-requires : goal.fill_section-requires
fill_section-requires c =
    record { listed = rw (c.rates_at.ensures.rates_after ∙ base-is _ _ _ ((ready (goal.at.fill_section-requires c).In_ok-curve).good _ (given (goal.at.fill_section-requires c).In_ok-curve)) refl) ((ready (goal.at.fill_section-requires c).In_ok-curve).base _ (given (goal.at.fill_section-requires c).In_ok-curve)); sized = (ready (goal.at.fill_section-requires c).In_ok-curve).sized _ (given (goal.at.fill_section-requires c).In_ok-curve); section_len = c.requires.rates_len }

pub returns-in_err-curve : goal.returns-in_err-curve
unfolding checked_as
returns-in_err-curve c = rw (handed _ c.from_residual.ensures.1) (curve-refused _ (ap (checked_as (curve_record _ _)) c.in_err-curve.was) _)

pub returns : goal.returns
unfolding checked_as
returns c =
    curve-taken (fields (goal.at.returns c).In_ok-curve).currency _ (ap (checked_as (curve_record _ _)) (given (goal.at.returns c).In_ok-curve)) ((ready (goal.at.returns c).In_ok-curve).bare _ (given (goal.at.returns c).In_ok-curve))
    (c.fill_section.ensures ∙ ap (λ (l : List ℤ). shocked_section (curve_of l (fields (goal.at.returns c).In_ok-curve).shocks)) (c.rates_at.ensures.rates_after ∙ base-is _ _ _ ((ready (goal.at.returns c).In_ok-curve).good _ (given (goal.at.returns c).In_ok-curve)) refl))
