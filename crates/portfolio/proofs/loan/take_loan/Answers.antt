-- `take_loan`: refused by its decoder, or the rows of three rates entered.
use Rattle.fields.proofs.Reading.{handed}
use Prim.Native.Nat.{ℕ, ◌/◌, ◌%◌, ◌<◌}
use lib.IntN.{pos}
use lib.ListN.{get_or}
use Rattle.paper.specs.Flow.{sided}
use Rattle.laws.specs.Tests.{all}
use Rattle.laws.specs.Sums.{sum}
use Rattle.paper.specs.Ladder.{buckets}
use Rattle.paper.specs.Behaviour.{behavioural_rate, prepayment_multipliers, prepayment_rate, loan_flow}
use Rattle.paper.specs.Decode.{decode_loan}
use Rattle.fields.specs.Answers.{amounts_from}
use Rattle.record.specs.Answers.{loan_of}
use Rattle.posting.specs.Parts.{trillion}
use Rattle.behaviour.specs.Rows.{three_multipliers}
use Rattle.posting.proofs.Loops.{row_at, row-long, row_small}
use Rattle.portfolio.proofs.Rows.{by_place, rows_taken, tied, tied-within, tied-rate}
use Rattle.portfolio.proofs.RecordFlows.{loan-flow, loan-size, loan-small, schedule-of}
use mathlib.Core.Bool.{true, false}
use mathlib.Core.List.{List, [], ◌∷◌}
use mathlib.Core.Path.{◌≡◌, refl, sym, ap, ◌∙◌}
use native.Mathlib.Omega.{arith}
use Rattle.paper.specs.Refusals.{accepted, checked_as}
use Rattle.paper.specs.Records.{flows, currencies}
use Rattle.paper.specs.Sound.{SoundFlows}
use Rattle.paper.proofs.KindTable.{loan-kind}
use Rattle.record.specs.declared.loan.Loan.{Loan}
use Rattle.posting.proofs.Admission.{flows-refused, flows-sound}
use Rattle.behaviour.proofs.AmountRange.{amounts-few}
use Rattle.portfolio.proofs.loan.take_loan.Goals as goal
use Rattle.portfolio.proofs.loan.take_loan.Goals.{In_ok-loan}

-- what is known once the body has been read
module _ (c : In_ok-loan) where
  abbrev body : List ℕ
  body = c.args.body.bytes.now

  abbrev fields : Loan
  fields = c.in_ok-loan.loan

  read : decode_loan currencies body ≡ accepted (flows fields.currency (loan_of body fields))
  unfolding checked_as
  read = sym c.in_ok-loan.ensures

  sound : SoundFlows (loan_of body fields)
  sound = flows-sound (λ _. false) (loan-kind currencies (λ _. false) body).sound read

-- a loan's nineteen flows at each of the three rates
abbrev row : In_ok-loan → ℕ → ℕ → ℕ
row w n = loan_flow (behavioural_rate three_multipliers (fields w).share n) (amounts_from (body w) 3) (amounts_from (body w) 79)

abbrev which : List ℕ
which = 0 ∷ 1 ∷ 2 ∷ 1 ∷ 2 ∷ 1 ∷ 2 ∷ []

chosen : tied which prepayment_multipliers ≡ true
unfolding all three_multipliers prepayment_multipliers
chosen = refl

pub loan_rows-requires : goal.loan_rows-requires
unfolding SoundFlows
loan_rows-requires c =
    record { body_len = (c.args.body.known.long, (sound (goal.at.loan_rows-requires c).In_ok-loan).0.to); sound_schedule = schedule-of (fields (goal.at.loan_rows-requires c).In_ok-loan).share _ _ (sound (goal.at.loan_rows-requires c).In_ok-loan) }

pub enter_rows-requires : goal.enter_rows-requires
enter_rows-requires c =
    let share = (fields (goal.at.enter_rows-requires c).In_ok-loan).share in
    let filled = c.loan_rows.ensures in
    let long = row-long (λ n. sum (row (goal.at.enter_rows-requires c).In_ok-loan n) buckets) 3 filled.sums_after in
    let small = loan-small (amounts_from (body (goal.at.enter_rows-requires c).In_ok-loan) 3) (amounts_from (body (goal.at.enter_rows-requires c).In_ok-loan) 79) (amounts-few (body (goal.at.enter_rows-requires c).In_ok-loan) 79) (schedule-of share _ _ (sound (goal.at.enter_rows-requires c).In_ok-loan)) in record {
      row_parts = record {
        rows_long = omega (arith, row-long (by_place (row (goal.at.enter_rows-requires c).In_ok-loan)) 57 filled.rows_after, long);
        which-long = refl;
        which-in = λ i l. omega (arith, tied-within which prepayment_multipliers chosen i l, long);
        rows-small = row_small (by_place (row (goal.at.enter_rows-requires c).In_ok-loan)) 57 trillion filled.rows_after (λ j l. omega (arith, (small (behavioural_rate three_multipliers share (j / buckets))).1 (j % buckets) (omega arith)));
        sums-small = row_small (λ n. sum (row (goal.at.enter_rows-requires c).In_ok-loan n) buckets) 3 trillion filled.sums_after (λ n l. omega (arith, (small (behavioural_rate three_multipliers share n)).0));
      };
      flow_parts = c.requires.flow_parts;
    }

pub returns-in_err-loan : goal.returns-in_err-loan
unfolding checked_as
returns-in_err-loan c = rw (handed _ c.from_residual.ensures.1) (flows-refused _ (sym c.in_err-loan.ensures) _ _)

pub returns : goal.returns
returns c =
    let l = fields (goal.at.returns c).In_ok-loan in
    let principals = amounts_from (body (goal.at.returns c).In_ok-loan) 3 in
    let interests = amounts_from (body (goal.at.returns c).In_ok-loan) 79 in
    let filled = c.loan_rows.ensures in
    let within = tied-within which prepayment_multipliers chosen in
    let rate : (i : ℕ) → i < 7 → behavioural_rate three_multipliers l.share (get_or which i 0) ≡ prepayment_rate l.share i = λ i o. tied-rate which prepayment_multipliers chosen i o l.share in
    rows_taken _ (read (goal.at.returns c).In_ok-loan) 1 c.requires.flow_parts (row (goal.at.returns c).In_ok-loan) which c.loan_rows.new.sums filled.rows_after within
    (λ i k o. ap (λ (x : ℕ). sided 1 (pos (loan_flow x principals interests k))) (rate i o) ∙ loan-flow l.currency l.share principals interests i k)
    (λ i o.
    row_at (λ n. sum (row (goal.at.returns c).In_ok-loan n) buckets) 3 filled.sums_after _ (within i o)
    ∙ ap (λ (x : ℕ). sum (loan_flow x principals interests) buckets) (rate i o)
    ∙ loan-size l.currency l.share principals interests i)
    c.enter_rows.ensures
