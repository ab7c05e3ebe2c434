-- The buckets passed, at all three rates; then bucket 1 with all that moved.
use Prim.Native.Nat.{ℕ, ◌+◌, ◌*◌, ◌/◌, ◌%◌, ◌<◌, ◌≤◌}
use mathlib.Core.List.{List}
use mathlib.Core.Path.{◌≡◌, refl, sym, ap, ◌∙◌}
use native.Mathlib.Omega.{arith}
use lib.ListN.{get_or}
use Rattle.laws.specs.Sums.{sum}
use Rattle.laws.specs.Lists.{tabulate, joined}
use Rattle.laws.proofs.Lists.{tabulate-ext}
use Rattle.paper.specs.Behaviour.{whole_rate, behavioural_rate, term_deposit_flow}
use Rattle.paper.proofs.Deposits.{rate-at-most}
use Rattle.fields.specs.Answers.{amounts_from}
use Rattle.posting.proofs.Loops.{row_small, row_at}
use Rattle.behaviour.specs.Rows.{three_multipliers}
use Rattle.behaviour.proofs.AmountRange.{amounts-few}
use Rattle.behaviour.proofs.Columns.{kept-none, kept_small, columns-none, columns-small}
use Rattle.behaviour.proofs.DepositRows.{moved-few, withdrawn-here}
use Rattle.behaviour.proofs.term_deposit.withdrawn_rows.Goals as goal

rates-small : (share : ℕ) {rates : List ℕ} → rates ≡ tabulate (behavioural_rate three_multipliers share) 3 → (r : ℕ) → get_or rates r 0 ≤ whole_rate
rates-small share e = row_small (behavioural_rate three_multipliers share) 3 whole_rate e (λ r _. rate-at-most three_multipliers share r)

pub loop-k-init : goal.loop-k-init
unfolding sum
loop-k-init c = record { stays = columns-none (omega arith); moves = kept-none 0 (λ r. refl) }

pub withdrawn_column-requires : goal.withdrawn_column-requires
withdrawn_column-requires c =
    let rates = c.rates_of-rates.ensures in
    record {
      body_len = (
        c.requires.body_len.0,
        omega arith,
        rates-small c.args.share rates,
      );
      at_most = c.requires.at_most;
      deposit_reached = c.loop-k.invariant;
    }

pub loop-k-preserved : goal.loop-k-preserved
loop-k-preserved c = c.withdrawn_column.ensures

pub raise_first-requires : goal.raise_first-requires
raise_first-requires c =
    let last : c.loop-k.k ≡ 19 = omega arith in
    let all = rw last at c.loop-k.invariant in
    let small = c.requires.at_most in
    let amounts = amounts_from c.args.body.now 3 in
    record {
      at_most = columns-small (λ r j. omega (arith, small j)) all.stays;
      at_most_2 = kept_small
          (λ r _. omega (arith, moved-few (get_or c.rates_of-rates.result r 0) amounts 19 (rates-small c.args.share c.rates_of-rates.ensures r) small))
          all.moves;
    }

pub returns : goal.returns
unfolding joined
returns c =
    let last : c.loop-k.k ≡ 19 = omega arith in
    let all = rw last at c.loop-k.invariant in
    let amounts = amounts_from c.args.body.now 3 in
    c.raise_first.ensures
    ∙ ap (tabulate _) all.stays.long
    ∙ tabulate-ext _ _ 57 (λ j o.
    let place : 19 * (j / 19) + j % 19 ≡ j = omega arith in
    let row : j / 19 < 3 = omega arith in
    withdrawn-here (get_or c.rates_of-rates.result (j / 19) 0) amounts (j % 19) (amounts-few c.args.body.now 3)
    (ap (λ (n : ℕ). get_or c.loop-k.rows n 0) (sym place) ∙ all.stays.at (j / 19) (j % 19) row (omega arith)) (all.moves.at (j / 19) row)
    ∙ ap (λ (r : ℕ). term_deposit_flow r amounts (j % 19))
    (row_at (behavioural_rate three_multipliers c.args.share) 3 c.rates_of-rates.ensures (j / 19) row))
