-- `take_single`: refused by its decoder, or slotted as one amount due.
use Rattle.fields.proofs.Reading.{handed}
use Prim.Native.Nat.{ℕ}
use Rattle.paper.specs.Decode.{decode_single}
use Rattle.record.specs.Answers.{single_of}
use mathlib.Core.Bool.{false}
use mathlib.Core.List.{List}
use mathlib.Core.Path.{◌≡◌, refl, sym}
use native.Mathlib.Omega.{arith}
use Rattle.paper.specs.Refusals.{accepted, checked_as}
use Rattle.paper.specs.Records.{flows, currencies}
use Rattle.paper.specs.Flow.{due, flow_of}
use Rattle.paper.specs.Sound.{SoundFlows}
use Rattle.paper.proofs.Magnitudes.{due-once}
use Rattle.paper.proofs.KindTable.{single-kind}
use Rattle.record.specs.declared.single.Single.{Single}
use Rattle.posting.proofs.Admission.{steady-taken, flows-refused, flows-sound}
use Rattle.slotting.proofs.single.take_single.Goals as goal
use Rattle.slotting.proofs.single.take_single.Goals.{In_ok-flow}

-- what is known once the body has been read
module _ (c : In_ok-flow) where
  abbrev body : List ℕ
  body = c.args.body.bytes.now

  abbrev fields : Single
  fields = c.in_ok-flow.flow

  read : decode_single currencies body ≡ accepted (flows fields.currency (single_of fields))
  unfolding checked_as
  read = sym c.in_ok-flow.ensures

  sound : SoundFlows (single_of fields)
  sound = flows-sound (λ _. false) (single-kind currencies (λ _. false) body).sound read

pub slot_due-requires : goal.slot_due-requires
unfolding SoundFlows
slot_due-requires c = record { amount_bound = omega (arith, (sound (goal.at.slot_due-requires c).In_ok-flow).2.to); flow_parts = c.requires.flow_parts }

pub returns-in_err-flow : goal.returns-in_err-flow
unfolding checked_as
returns-in_err-flow c = rw (handed _ c.from_residual.ensures.1) (flows-refused _ (sym c.in_err-flow.ensures) _ _)

pub returns : goal.returns
unfolding flow_of
returns c =
    steady-taken (fields (goal.at.returns c).In_ok-flow).currency (single_of (fields (goal.at.returns c).In_ok-flow)) (fields (goal.at.returns c).In_ok-flow).side (due _ (fields (goal.at.returns c).In_ok-flow).amount.0) (fields (goal.at.returns c).In_ok-flow).amount.0 (due-once _ (fields (goal.at.returns c).In_ok-flow).amount.0) (λ i k. refl)
    c.requires.flow_parts (read (goal.at.returns c).In_ok-flow) c.slot_due.ensures
