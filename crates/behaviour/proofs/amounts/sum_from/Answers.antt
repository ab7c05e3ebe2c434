use Prim.Native.Nat.{◌+◌}
use mathlib.Core.Path.{◌≡◌, refl, sym, ap₂, ◌∙◌}
use native.Mathlib.Nat.{le_refl}
use native.Mathlib.Omega.{arith}
use borrow.Author.Rules.{rules}
use Rattle.laws.specs.Sums.{sum}
use Rattle.laws.proofs.Lists.{tabulate-length}
use Rattle.laws.proofs.Sums.{sum_more}
use Rattle.laws.proofs.Totals.{sum-get_or}
use Rattle.fields.specs.Answers.{amounts_from}
use Rattle.behaviour.proofs.amounts.sum_from.Goals as goal

pub loop-k-init : goal.loop-k-init
unfolding sum
loop-k-init c = (refl, search rules)

pub overflow_add-total : goal.overflow_add-total
overflow_add-total c = record { fits = omega (arith, c.loop-k.invariant.1, c.amount_of.ensures.1) }

pub loop-k-preserved : goal.loop-k-preserved
loop-k-preserved c =
    let at = c.loop-k in
    let amount = c.amount_of.ensures in
    (ap₂ ◌+◌ at.invariant.0 amount.0 ∙ sym (sum_more _ at.k), omega (arith, at.invariant.1, amount.1))

pub returns : goal.returns
returns c =
    let at = c.loop-k in
    let amounts = amounts_from c.args.body.now c.args.from in
    let last : at.k ≡ 19 = omega arith in
    ((rw last at at.invariant.0) ∙ sum-get_or amounts 19 (rw (tabulate-length _ 19) (le_refl 19)), omega (arith, at.invariant.1))
