-- `take_deposit`: refused by its decoder, or a row of core and rest entered.
use Rattle.fields.proofs.Reading.{handed}
use Prim.Native.Nat.{ℕ, ◌≤◌}
use Rattle.laws.specs.Sums.{sum_of}
use Rattle.paper.specs.Ladder.{buckets}
use Rattle.paper.specs.Behaviour.{deposit_flow}
use Rattle.paper.specs.Flow.{sided, flow_of}
use Rattle.paper.specs.Decode.{decode_deposit}
use Rattle.paper.proofs.Deposits.{deposit-adds-up}
use Rattle.fields.specs.Answers.{amounts_from}
use Rattle.record.specs.Answers.{deposit_of}
use Rattle.posting.specs.Parts.{trillion}
use Rattle.posting.proofs.Loops.{row_small}
use Rattle.portfolio.proofs.RecordFlows.{core-small}
use mathlib.Core.Bool.{false}
use mathlib.Core.List.{List}
use mathlib.Core.Path.{◌≡◌, refl, sym}
use native.Mathlib.Omega.{arith}
use Rattle.paper.specs.Refusals.{accepted, checked_as}
use Rattle.paper.specs.Records.{flows, currencies}
use Rattle.paper.specs.Sound.{SoundFlows}
use Rattle.paper.proofs.Ranges.{core-within}
use Rattle.paper.proofs.KindTable.{deposit-kind}
use Rattle.record.specs.declared.deposit.Deposit.{Deposit}
use Rattle.posting.proofs.Admission.{steady-taken, flows-refused, flows-sound, row-entered}
use Rattle.behaviour.proofs.AmountRange.{amounts-few, amounts-small}
use Rattle.portfolio.proofs.deposit.take_deposit.Goals as goal
use Rattle.portfolio.proofs.deposit.take_deposit.Goals.{In_ok-deposit}

-- what is known once the body has been read
module _ (c : In_ok-deposit) where
  abbrev body : List ℕ
  body = c.args.body.bytes.now

  abbrev fields : Deposit
  fields = c.in_ok-deposit.deposit

  read : decode_deposit currencies body ≡ accepted (flows fields.currency (deposit_of body fields))
  unfolding checked_as
  read = sym c.in_ok-deposit.ensures

  sound : SoundFlows (deposit_of body fields)
  sound = flows-sound (λ _. false) (deposit-kind currencies (λ _. false) body).sound read

  within : sum_of (amounts_from body 6) ≤ fields.total.0
  unfolding SoundFlows
  within = core-within fields.category fields.total.0 (amounts_from body 6) sound.3

pub core_row-row-requires : goal.core_row-row-requires
unfolding SoundFlows
core_row-row-requires c =
    record { body_len = (c.args.body.known.long, (sound (goal.at.core_row-row-requires c).In_ok-deposit).1.to); at_most = (amounts-small (sound (goal.at.core_row-row-requires c).In_ok-deposit).2, within (goal.at.core_row-row-requires c).In_ok-deposit) }

pub enter_row-requires : goal.enter_row-requires
unfolding SoundFlows
enter_row-requires c =
    let whole = (fields (goal.at.enter_row-requires c).In_ok-deposit).total.0 in
    let core = amounts_from (body (goal.at.enter_row-requires c).In_ok-deposit) 6 in
    let filled = c.core_row-row.ensures in record {
      row_small = (
        row_small (deposit_flow whole core) buckets trillion filled (λ k l. omega (arith, core-small whole core (amounts-few (body (goal.at.enter_row-requires c).In_ok-deposit) 6) (within (goal.at.enter_row-requires c).In_ok-deposit) k l, (sound (goal.at.enter_row-requires c).In_ok-deposit).1.to)),
        omega (arith, (sound (goal.at.enter_row-requires c).In_ok-deposit).1.to),
      );
      flow_parts = c.requires.flow_parts;
    }

pub returns-in_err-deposit : goal.returns-in_err-deposit
unfolding checked_as
returns-in_err-deposit c = rw (handed _ c.from_residual.ensures.1) (flows-refused _ (sym c.in_err-deposit.ensures) _ _)

pub returns : goal.returns
unfolding SoundFlows sided flow_of
returns c =
    let d = fields (goal.at.returns c).In_ok-deposit in
    let whole = d.total.0 in
    let core = amounts_from (body (goal.at.returns c).In_ok-deposit) 6 in
    steady-taken d.currency _ 2 (deposit_flow whole core) whole (deposit-adds-up whole core (amounts-few (body (goal.at.returns c).In_ok-deposit) 6) (within (goal.at.returns c).In_ok-deposit)) (λ i k. refl)
    c.requires.flow_parts (read (goal.at.returns c).In_ok-deposit)
    (row-entered (deposit_flow whole core) 2 _ c.core_row-row.ensures c.enter_row.ensures)
