-- `net_size` meets its contract. The invariant: the sum of the magnitudes so far, which is within the bound on the row's.
use Prim.Native.Nat.{ℕ, ◌+◌, ◌*◌, ◌≤◌}
use mathlib.Core.Path.{◌≡◌, sym, ap, ◌∙◌}
use native.Mathlib.Omega.{arith}
use lib.IntN.{pos, nat_abs}
use lib.ListN.{get_or}
use mir.Syntax.{w64}
use borrow.Author.Rules.{rules}
use Rattle.laws.specs.Sums.{sum}
use Rattle.laws.proofs.Widths.{back}
use Rattle.laws.proofs.Sums.{sum_more, sum-upto}
use Rattle.paper.specs.Scales.{billion}
use Rattle.paper.specs.Ladder.{buckets}
use Rattle.paper.specs.Change.{net_size}
use Rattle.arrays.specs.Rooms.{cell_by}
use Rattle.change.proofs.CurrencyParts.{part-cell}
use Rattle.change.proofs.net_size.Goals as goal
use Rattle.change.proofs.net_size.Goals.{After-unsigned_abs}

-- the row's flows, and the bound on the sum with that of this turn
module _ (c : After-unsigned_abs) where
  abbrev size : ℕ → ℕ
  size j = nat_abs (cell_by c.args.cells.now 1 c.args.scenario j)

  room : sum size c.loop-k.k + size c.loop-k.k ≤ billion
  unfolding net_size
  room = omega (arith, sum-upto size c.loop-k.k buckets c.loop-k-test.true, c.requires.scenario_bound)

  -- the flow that was read
  magnitude-is : c.unsigned_abs.result ≡ size c.loop-k.k
  magnitude-is =
      c.unsigned_abs.ensures.value
      ∙ ap nat_abs (back w64 (get_or c.args.cells.now (buckets * c.args.scenario + c.loop-k.k) (pos 0)) (omega arith) ∙ sym (part-cell c.args.cells.now _ _))

pub loop-k-init : goal.loop-k-init
unfolding sum
loop-k-init c = search rules

pub overflow_add-size : goal.overflow_add-size
overflow_add-size c =
    let a = (goal.at.overflow_add-size c).After-unsigned_abs in
    record { fits = omega (arith, magnitude-is a, room a) }

pub loop-k-preserved : goal.loop-k-preserved
loop-k-preserved c =
    let a = (goal.at.loop-k-preserved c).After-unsigned_abs in
    omega (arith, magnitude-is a, sum_more (size a) c.loop-k.k)

pub returns : goal.returns
unfolding net_size
returns c =
    let e : c.loop-k.k ≡ buckets = omega arith in
    rw e at c.loop-k.invariant
