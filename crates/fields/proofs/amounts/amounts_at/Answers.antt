-- `amounts_at` meets its contract: no amount so far is above its limit, and the sum is theirs.
use mathlib.Core.Path.{◌≡◌, sym, ◌∙◌}
use native.Mathlib.Omega.{arith}
use Rattle.fields.specs.Answers.{thousands}
use Rattle.fields.proofs.Reading.{handed, bad, amount-value}
use Rattle.fields.proofs.AmountLaws.{summed-none, summed-more, summed-stops, summed-ends}
use Rattle.fields.proofs.amounts.amounts_at.Goals as goal

pub loop-k-init : goal.loop-k-init
loop-k-init c = summed-none _ _

pub returns-in_err-amount : goal.returns-in_err-amount
returns-in_err-amount c =
    handed _ c.from_residual.ensures.1 ∙ sym (summed-stops _ _ _ _ c.loop-k.invariant c.loop-k-test.true (bad thousands c.in_err-amount.ensures))

pub overflow_add-sum : goal.overflow_add-sum
overflow_add-sum c =
    let more = summed-more _ _ _ _ _ c.loop-k.invariant (amount-value c.in_ok-amount.ensures) in
    record { fits = omega (arith, more.small) }

pub loop-k-preserved : goal.loop-k-preserved
loop-k-preserved c = summed-more _ _ _ _ _ c.loop-k.invariant (amount-value c.in_ok-amount.ensures)

pub returns : goal.returns
returns c =
    let e : c.loop-k.k ≡ 19 = omega arith in
    sym (summed-ends _ _ _ (rw e at c.loop-k.invariant))
