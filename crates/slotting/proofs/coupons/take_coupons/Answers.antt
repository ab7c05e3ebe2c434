-- `take_coupons`: refused by its decoder, or slotted as coupons from today on with the principal at the last.
use Rattle.fields.proofs.Reading.{handed}
use Prim.Native.Nat.{ℕ, ◌*◌}
use mathlib.Core.Bool.{false}
use mathlib.Core.List.{List}
use mathlib.Core.Path.{◌≡◌, refl, sym}
use native.Mathlib.Omega.{arith}
use Rattle.paper.specs.Ladder.{in_months}
use Rattle.paper.specs.Refusals.{accepted, checked_as}
use Rattle.paper.specs.Records.{flows, currencies}
use Rattle.paper.specs.Flow.{flow_of}
use Rattle.paper.specs.Decode.{decode_coupons}
use Rattle.paper.specs.Sound.{SoundFlows}
use Rattle.paper.proofs.Ranges.{period-range}
use Rattle.paper.proofs.KindTable.{coupons-kind}
use Rattle.record.specs.declared.coupons.Coupons.{Coupons}
use Rattle.record.specs.Answers.{coupons_of}
use Rattle.posting.proofs.Admission.{steady-taken, flows-refused, flows-sound}
use Rattle.due.specs.Schedules.{scheduled}
use Rattle.due.proofs.Periods.{scheduled-sum}
use Rattle.slotting.proofs.coupons.take_coupons.Goals as goal
use Rattle.slotting.proofs.coupons.take_coupons.Goals.{In_ok-bond}

-- what is known once the body has been read
module _ (c : In_ok-bond) where
  abbrev body : List ℕ
  body = c.args.body.bytes.now

  abbrev fields : Coupons
  fields = c.in_ok-bond.bond

  read : decode_coupons currencies body ≡ accepted (flows fields.currency (coupons_of fields))
  unfolding checked_as
  read = sym c.in_ok-bond.ensures

  sound : SoundFlows (coupons_of fields)
  sound = flows-sound (λ _. false) (coupons-kind currencies (λ _. false) body).sound read

pub overflow_mul-bond : goal.overflow_mul-bond
unfolding SoundFlows
overflow_mul-bond c = record { fits = omega (arith, (sound (goal.at.overflow_mul-bond c).In_ok-bond).2.last) }

pub slot_schedule-requires : goal.slot_schedule-requires
unfolding SoundFlows
slot_schedule-requires c =
    let p = sound (goal.at.slot_schedule-requires c).In_ok-bond in
    record { regular = (record { some = (period-range _ p.1).from; year = (period-range _ p.1).to; last = p.2.last; small = p.3.to }, omega (arith, p.4.to)); flow_parts = c.requires.flow_parts }

pub returns-in_err-bond : goal.returns-in_err-bond
unfolding checked_as
returns-in_err-bond c = rw (handed _ c.from_residual.ensures.1) (flows-refused _ (sym c.in_err-bond.ensures) _ _)

pub returns : goal.returns
unfolding flow_of
returns c =
    let last = in_months ((fields (goal.at.returns c).In_ok-bond).period * (fields (goal.at.returns c).In_ok-bond).count) in
    steady-taken (fields (goal.at.returns c).In_ok-bond).currency (coupons_of (fields (goal.at.returns c).In_ok-bond)) (fields (goal.at.returns c).In_ok-bond).side (scheduled _ last (fields (goal.at.returns c).In_ok-bond).principal.0) _ (scheduled-sum _ last (fields (goal.at.returns c).In_ok-bond).principal.0) (λ i k. refl)
    c.requires.flow_parts (read (goal.at.returns c).In_ok-bond) c.slot_schedule.ensures
