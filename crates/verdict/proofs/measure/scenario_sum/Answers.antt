-- `scenario_sum` meets its contract. The invariant: the losses of the currencies so far, added.
use Prim.Native.Nat.{ℕ, suc, ◌+◌, ◌*◌, ◌-◌}
use mathlib.Core.Path.{◌≡◌, sym, ap, ◌∙◌}
use native.Mathlib.Omega.{arith}
use lib.IntN.{pos}
use lib.ListN.{get_or}
use mir.Syntax.{w64}
use borrow.Author.Rules.{rules}
use Rattle.laws.specs.Integers.{up}
use Rattle.laws.specs.Sums.{sum}
use Rattle.laws.proofs.Widths.{back}
use Rattle.laws.proofs.Sums.{sum_more}
use Rattle.paper.specs.Flow.{shocked}
use Rattle.arrays.specs.Rooms.{listed}
use Rattle.verdict.proofs.Figures.{listed-at, losses-most, losses-all}
use Rattle.verdict.proofs.measure.scenario_sum.Goals as goal
use Rattle.verdict.proofs.measure.scenario_sum.Goals.{After-positive}

-- the loss of this turn, and the total with it
module _ (c : After-positive) where
  abbrev loss : ℕ → ℕ
  loss d = up (listed c.args.changes.now (suc d) c.args.scenario)

  loss-is : c.positive.result.0 ≡ loss c.loop-c.c
  loss-is =
      let change = get_or c.args.changes.now (shocked * c.loop-c.c + (c.args.scenario - 1)) (pos 0) in
      c.positive.ensures ∙ ap up (back w64 change (omega arith) ∙ sym (listed-at _ c.loop-c.c _))

  total-is : c.loop-c.total.0 + c.positive.result.0 ≡ sum loss (c.loop-c.c + 1)
  total-is = omega (arith, loss-is, sum_more loss c.loop-c.c)

pub loop-c-init : goal.loop-c-init
unfolding sum
loop-c-init c = search rules

pub overflow_add-total : goal.overflow_add-total
overflow_add-total c =
    record { fits = omega (arith, total-is (goal.at.overflow_add-total c).After-positive, losses-most c.requires.figures c.args.scenario (c.loop-c.c + 1) (omega arith)) }

pub loop-c-preserved : goal.loop-c-preserved
loop-c-preserved c = total-is (goal.at.loop-c-preserved c).After-positive

pub returns : goal.returns
returns c =
    let e : c.loop-c.c ≡ c.args.last = omega arith in
    (rw e at c.loop-c.invariant) ∙ losses-all c.requires.figures c.args.scenario
