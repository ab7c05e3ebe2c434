-- `take_option`: refused by its decoder, or its six values slotted.
use Rattle.fields.proofs.Reading.{handed}
use Prim.Native.Nat.{ℕ}
use mathlib.Core.Bool.{false}
use mathlib.Core.List.{List}
use mathlib.Core.Path.{◌≡◌, sym, subst}
use Rattle.paper.specs.Refusals.{accepted, checked_as}
use Rattle.paper.specs.Records.{option, currencies}
use Rattle.paper.specs.Scales.{billion}
use Rattle.paper.specs.Decode.{decode_option}
use Rattle.paper.specs.Sound.{Sound}
use Rattle.paper.proofs.Checks.{known_of}
use Rattle.paper.proofs.KindTable.{option-kind}
use Rattle.record.specs.declared.option_add_on.OptionAddOn.{OptionAddOn}
use Rattle.record.specs.Answers.{values_of}
use Rattle.posting.specs.Parts.{AtMostℤ}
use Rattle.posting.proofs.Admission.{option-refused}
use Rattle.slotting.proofs.Options.{values-small, values-back}
use Rattle.slotting.proofs.option_add_on.take_option.Goals as goal
use Rattle.slotting.proofs.option_add_on.take_option.Goals.{In_ok-option}

-- what is known once the body has been read
module _ (c : In_ok-option) where
  abbrev body : List ℕ
  body = c.args.body.bytes.now

  abbrev fields : OptionAddOn
  fields = c.in_ok-option.option

  read : decode_option currencies body ≡ accepted (option fields.currency fields.side (values_of fields))
  unfolding checked_as
  read = sym c.in_ok-option.ensures

  small : AtMostℤ billion (values_of fields)
  unfolding Sound
  small = values-small (values_of fields) (known_of (option-kind currencies (λ _. false) body).sound _ read).2

pub slot_values-requires : goal.slot_values-requires
slot_values-requires c =
    record { values_bound = subst (AtMostℤ billion) (sym (values-back (values_of (fields (goal.at.slot_values-requires c).In_ok-option)) (small (goal.at.slot_values-requires c).In_ok-option))) (small (goal.at.slot_values-requires c).In_ok-option); option_parts = c.requires.option_parts }

pub returns-in_err-option : goal.returns-in_err-option
unfolding checked_as
returns-in_err-option c = rw (handed _ c.from_residual.ensures.1) (option-refused _ (sym c.in_err-option.ensures) _ _)

pub returns : goal.returns
returns c =
    rw (read (goal.at.returns c).In_ok-option) (rw (values-back (values_of (fields (goal.at.returns c).In_ok-option)) (small (goal.at.returns c).In_ok-option)) at (c.slot_values.ensures (fields (goal.at.returns c).In_ok-option).currency))
