-- `weighed_core` meets its contract: the sum so far is that of the amounts times midpoints.
use Prim.Native.Nat.{ℕ}
use mathlib.Core.List.{List}
use mathlib.Core.Path.{◌≡◌, ap, ◌∙◌}
use native.Mathlib.Omega.{arith}
use lib.ListN.{get_or}
use Rattle.rules.proofs.DepositLaws.{weighed-none, weighed-more, weighed-ends}
use Rattle.rules.proofs.deposit.weighed_core.Goals as goal

pub loop-k-init : goal.loop-k-init
loop-k-init c = weighed-none _

pub loop-k-preserved : goal.loop-k-preserved
loop-k-preserved c =
    weighed-more _ _ _ _ _ c.loop-k.invariant c.money_at.ensures.0 c.money_at.ensures.1
    (c.from.ensures ∙ ap (λ (l : List ℕ). get_or l c.loop-k.k 0) c.midpoints-middle-items.ensures)

pub overflow_add-weighed : goal.overflow_add-weighed
overflow_add-weighed c = record { fits = omega (arith, (loop-k-preserved c).small) }

pub returns : goal.returns
returns c =
    let e : c.loop-k.k ≡ 19 = omega arith in
    weighed-ends _ _ (rw e at c.loop-k.invariant)
