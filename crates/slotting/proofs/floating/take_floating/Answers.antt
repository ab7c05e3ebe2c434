-- `take_floating`: refused by its decoder, or slotted as one amount due at the reset.
use Rattle.fields.proofs.Reading.{handed}
use Prim.Native.Nat.{ℕ, ◌+◌}
use Rattle.paper.specs.Decode.{decode_floating}
use Rattle.record.specs.Answers.{floating_of}
use mathlib.Core.Bool.{false}
use mathlib.Core.List.{List}
use mathlib.Core.Path.{◌≡◌, refl, sym}
use native.Mathlib.Omega.{arith}
use Rattle.paper.specs.Refusals.{accepted, checked_as}
use Rattle.paper.specs.Records.{flows, currencies}
use Rattle.paper.specs.Flow.{due, flow_of}
use Rattle.paper.specs.Sound.{SoundFlows}
use Rattle.paper.proofs.Magnitudes.{due-once}
use Rattle.paper.proofs.KindTable.{floating-kind}
use Rattle.record.specs.declared.floating.Floating.{Floating}
use Rattle.posting.proofs.Admission.{steady-taken, flows-refused, flows-sound}
use Rattle.slotting.proofs.floating.take_floating.Goals as goal
use Rattle.slotting.proofs.floating.take_floating.Goals.{In_ok-position}

-- what is known once the body has been read
module _ (c : In_ok-position) where
  abbrev body : List ℕ
  body = c.args.body.bytes.now

  abbrev fields : Floating
  fields = c.in_ok-position.position

  read : decode_floating currencies body ≡ accepted (flows fields.currency (floating_of fields))
  unfolding checked_as
  read = sym c.in_ok-position.ensures

  sound : SoundFlows (floating_of fields)
  sound = flows-sound (λ _. false) (floating-kind currencies (λ _. false) body).sound read

pub overflow_add-position : goal.overflow_add-position
unfolding SoundFlows
overflow_add-position c = record { fits = omega (arith, (sound (goal.at.overflow_add-position c).In_ok-position).2.to, (sound (goal.at.overflow_add-position c).In_ok-position).3.to) }

pub slot_due-requires : goal.slot_due-requires
unfolding SoundFlows
slot_due-requires c = record { amount_bound = omega (arith, (sound (goal.at.slot_due-requires c).In_ok-position).2.to, (sound (goal.at.slot_due-requires c).In_ok-position).3.to); flow_parts = c.requires.flow_parts }

pub returns-in_err-position : goal.returns-in_err-position
unfolding checked_as
returns-in_err-position c = rw (handed _ c.from_residual.ensures.1) (flows-refused _ (sym c.in_err-position.ensures) _ _)

pub returns : goal.returns
unfolding flow_of
returns c =
    steady-taken (fields (goal.at.returns c).In_ok-position).currency (floating_of (fields (goal.at.returns c).In_ok-position)) (fields (goal.at.returns c).In_ok-position).side (due _ ((fields (goal.at.returns c).In_ok-position).principal.0 + (fields (goal.at.returns c).In_ok-position).coupon.0)) ((fields (goal.at.returns c).In_ok-position).principal.0 + (fields (goal.at.returns c).In_ok-position).coupon.0) (due-once _ ((fields (goal.at.returns c).In_ok-position).principal.0 + (fields (goal.at.returns c).In_ok-position).coupon.0)) (λ i k. refl)
    c.requires.flow_parts (read (goal.at.returns c).In_ok-position) c.slot_due.ensures
