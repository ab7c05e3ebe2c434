-- `take_term_deposit`: refused by its decoder, or the rows of three rates entered.
use Rattle.fields.proofs.Reading.{handed}
use Prim.Native.Nat.{ℕ, ◌/◌, ◌%◌, ◌<◌, ◌≤◌}
use lib.IntN.{pos}
use lib.ListN.{replicate, get_or-replicate}
use Rattle.laws.specs.Tests.{all}
use Rattle.laws.specs.Sums.{sum_of}
use Rattle.laws.specs.Lists.{tabulate}
use Rattle.paper.specs.Ladder.{buckets}
use Rattle.paper.specs.Behaviour.{behavioural_rate, withdrawal_multipliers, term_deposit_flow}
use Rattle.paper.specs.Flow.{sided}
use Rattle.paper.specs.Decode.{decode_term_deposit}
use Rattle.paper.proofs.Deposits.{moves-add-up, rate-at-most}
use Rattle.paper.proofs.Magnitudes.{size-term-deposit}
use Rattle.fields.specs.Answers.{amounts_from}
use Rattle.record.specs.Answers.{term_deposit_of}
use Rattle.posting.specs.Parts.{AtMost, trillion}
use Rattle.behaviour.specs.Rows.{three_multipliers}
use Rattle.posting.proofs.Loops.{replicate-all, row-long, row_small}
use Rattle.portfolio.proofs.Rows.{by_place, rows_taken, first-row, first-sum, tied, tied-within, tied-rate}
use Rattle.portfolio.proofs.RecordFlows.{amounts-most, withdrawn-small, withdrawn-flow}
use mathlib.Core.Bool.{true, false}
use mathlib.Core.List.{List, [], ◌∷◌}
use mathlib.Core.Path.{◌≡◌, refl, sym, ap, ◌∙◌}
use native.Mathlib.Omega.{arith}
use Rattle.paper.specs.Refusals.{accepted, checked_as}
use Rattle.paper.specs.Records.{flows, currencies}
use Rattle.paper.specs.Sound.{SoundFlows}
use Rattle.paper.proofs.KindTable.{term-deposit-kind}
use Rattle.record.specs.declared.term_deposit.TermDeposit.{TermDeposit}
use Rattle.posting.proofs.Admission.{flows-refused, flows-sound}
use Rattle.behaviour.proofs.AmountRange.{amounts-few, amounts-small}
use Rattle.portfolio.proofs.term_deposit.take_term_deposit.Goals as goal
use Rattle.portfolio.proofs.term_deposit.take_term_deposit.Goals.{In_ok-deposit}

-- what is known once the body has been read
module _ (c : In_ok-deposit) where
  abbrev body : List ℕ
  body = c.args.body.bytes.now

  abbrev fields : TermDeposit
  fields = c.in_ok-deposit.deposit

  read : decode_term_deposit currencies body ≡ accepted (flows fields.currency (term_deposit_of body fields))
  unfolding checked_as
  read = sym c.in_ok-deposit.ensures

  sound : SoundFlows (term_deposit_of body fields)
  sound = flows-sound (λ _. false) (term-deposit-kind currencies (λ _. false) body).sound read

-- a deposit's nineteen flows at each of the three rates
abbrev row : In_ok-deposit → ℕ → ℕ → ℕ
row w n = term_deposit_flow (behavioural_rate three_multipliers (fields w).share n) (amounts_from (body w) 3)

abbrev which : List ℕ
which = 0 ∷ 2 ∷ 1 ∷ 1 ∷ 2 ∷ 2 ∷ 1 ∷ []

chosen : tied which withdrawal_multipliers ≡ true
unfolding all three_multipliers withdrawal_multipliers
chosen = refl

pub withdrawn_rows-rows-requires : goal.withdrawn_rows-rows-requires
unfolding SoundFlows
withdrawn_rows-rows-requires c =
    record { body_len = (c.args.body.known.long, (sound (goal.at.withdrawn_rows-rows-requires c).In_ok-deposit).0.to); at_most = amounts-small (sound (goal.at.withdrawn_rows-rows-requires c).In_ok-deposit).1 }

-- no flow is above all that is deposited
row_within : (w : In_ok-deposit) (n k : ℕ) → k < buckets → row w n k ≤ sum_of (amounts_from (body w) 3)
row_within w n k l =
    withdrawn-small (behavioural_rate three_multipliers (fields w).share n) (amounts_from (body w) 3) (rate-at-most three_multipliers (fields w).share n)
    (amounts-few (body w) 3) k l

rows-small : (w : In_ok-deposit) {l : List ℕ} → l ≡ tabulate (by_place (row w)) 57 → AtMost trillion l
unfolding SoundFlows
rows-small w filled =
    row_small (by_place (row w)) 57 trillion filled
    (λ j l. omega (arith, row_within w (j / buckets) (j % buckets) (omega arith), amounts-most (amounts_from (body w) 3) (amounts-few (body w) 3) (amounts-small (sound w).1)))

pub row_sum-sums-requires : goal.row_sum-sums-requires
row_sum-sums-requires c =
    let filled = c.withdrawn_rows-rows.ensures in
    first-row (row (goal.at.row_sum-sums-requires c).In_ok-deposit) filled (rows-small (goal.at.row_sum-sums-requires c).In_ok-deposit filled)

pub enter_rows-requires : goal.enter_rows-requires
unfolding SoundFlows
enter_rows-requires c =
    let w = (goal.at.enter_rows-requires c).In_ok-deposit in
    -- all that is deposited, at every rate
    let summed = c.row_sum-sums.ensures ∙ first-sum (row w) c.withdrawn_rows-rows.ensures
    ∙ moves-add-up (behavioural_rate three_multipliers (fields w).share 0) (amounts_from (body w) 3) (rate-at-most three_multipliers (fields w).share 0) (amounts-few (body w) 3) in
    let filled = c.withdrawn_rows-rows.ensures in
    let most = amounts-most (amounts_from (body w) 3) (amounts-few (body w) 3) (amounts-small (sound w).1) in record {
      row_parts = record {
        rows_long = row-long (by_place (row w)) 57 filled;
        which-long = refl;
        which-in = tied-within which withdrawal_multipliers chosen;
        rows-small = rows-small w filled;
        sums-small = replicate-all 0 (λ n. n ≤ trillion) 3 c.row_sum-sums.result.0 (omega (arith, summed, most)) (omega arith);
      };
      flow_parts = c.requires.flow_parts;
    }

pub returns-in_err-deposit : goal.returns-in_err-deposit
unfolding checked_as
returns-in_err-deposit c = rw (handed _ c.from_residual.ensures.1) (flows-refused _ (sym c.in_err-deposit.ensures) _ _)

pub returns : goal.returns
returns c =
    let w = (goal.at.returns c).In_ok-deposit in
    -- all that is deposited, at every rate
    let summed = c.row_sum-sums.ensures ∙ first-sum (row w) c.withdrawn_rows-rows.ensures
    ∙ moves-add-up (behavioural_rate three_multipliers (fields w).share 0) (amounts_from (body w) 3) (rate-at-most three_multipliers (fields w).share 0) (amounts-few (body w) 3) in
    let d = fields w in
    let amounts = amounts_from (body w) 3 in
    let within = tied-within which withdrawal_multipliers chosen in
    rows_taken _ (read w) 2 c.requires.flow_parts (row w) which (replicate 3 c.row_sum-sums.result.0)
    c.withdrawn_rows-rows.ensures within
    (λ i k o. ap (λ (x : ℕ). sided 2 (pos (term_deposit_flow x amounts k))) (tied-rate which withdrawal_multipliers chosen i o d.share)
    ∙ withdrawn-flow d.currency d.share amounts i k)
    (λ i o. get_or-replicate 3 _ c.row_sum-sums.result.0 0 (within i o) ∙ summed ∙ sym (size-term-deposit d.currency i d.share amounts (amounts-few (body w) 3)))
    c.enter_rows.ensures
