-- `take_floating_spread`: refused by its decoder, or slotted as spreads after the reset with principal and coupon at it.
use Rattle.fields.proofs.Reading.{handed}
use Prim.Native.Nat.{ℕ, ◌+◌}
use mathlib.Core.Bool.{false}
use mathlib.Core.List.{List}
use mathlib.Core.Path.{◌≡◌, refl, sym}
use native.Mathlib.Omega.{arith}
use Rattle.paper.specs.Refusals.{accepted, checked_as}
use Rattle.paper.specs.Records.{flows, currencies}
use Rattle.paper.specs.Flow.{flow_of}
use Rattle.paper.specs.Decode.{decode_floating_spread}
use Rattle.paper.specs.Sound.{SoundFlows}
use Rattle.paper.proofs.Ranges.{period-range}
use Rattle.paper.proofs.KindTable.{floating-spread-kind}
use Rattle.record.specs.declared.floating_spread.FloatingSpread.{FloatingSpread}
use Rattle.record.specs.Answers.{floating_spread_of}
use Rattle.posting.proofs.Admission.{steady-taken, flows-refused, flows-sound}
use Rattle.due.specs.Schedules.{scheduled}
use Rattle.due.proofs.Periods.{scheduled-sum}
use Rattle.slotting.proofs.floating_spread.take_floating_spread.Goals as goal
use Rattle.slotting.proofs.floating_spread.take_floating_spread.Goals.{In_ok-position}

-- what is known once the body has been read
module _ (c : In_ok-position) where
  abbrev body : List ℕ
  body = c.args.body.bytes.now

  abbrev fields : FloatingSpread
  fields = c.in_ok-position.position

  -- what falls due at the reset
  abbrev amount : ℕ
  amount = fields.floating.principal.0 + fields.floating.coupon.0

  read : decode_floating_spread currencies body ≡ accepted (flows fields.floating.currency (floating_spread_of fields))
  unfolding checked_as
  read = sym c.in_ok-position.ensures

  sound : SoundFlows (floating_spread_of fields)
  sound = flows-sound (λ _. false) (floating-spread-kind currencies (λ _. false) body).sound read

pub overflow_add-floating : goal.overflow_add-floating
unfolding SoundFlows
overflow_add-floating c = let p = sound (goal.at.overflow_add-floating c).In_ok-position in record { fits = omega (arith, p.2.to, p.3.to) }

pub slot_schedule-requires : goal.slot_schedule-requires
unfolding SoundFlows
slot_schedule-requires c =
    let p = sound (goal.at.slot_schedule-requires c).In_ok-position in
    record { regular = (record { some = (period-range _ p.4).from; year = (period-range _ p.4).to; last = p.5.last; small = p.6.to }, omega (arith, p.2.to, p.3.to)); flow_parts = c.requires.flow_parts }

pub returns-in_err-position : goal.returns-in_err-position
unfolding checked_as
returns-in_err-position c = rw (handed _ c.from_residual.ensures.1) (flows-refused _ (sym c.in_err-position.ensures) _ _)

pub returns : goal.returns
unfolding flow_of
returns c =
    steady-taken (fields (goal.at.returns c).In_ok-position).floating.currency (floating_spread_of (fields (goal.at.returns c).In_ok-position)) (fields (goal.at.returns c).In_ok-position).floating.side (scheduled _ _ (amount (goal.at.returns c).In_ok-position)) _ (scheduled-sum _ _ (amount (goal.at.returns c).In_ok-position)) (λ i k. refl)
    c.requires.flow_parts (read (goal.at.returns c).In_ok-position) c.slot_schedule.ensures
