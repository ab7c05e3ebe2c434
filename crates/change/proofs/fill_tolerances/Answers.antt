-- `fill_tolerances` meets its contract. The room is filled from the front with the tolerances.
use Prim.Native.Nat.{◌+◌}
use mathlib.Core.List.{[]}
use mathlib.Core.Path.{◌≡◌, ap, ap₂, ◌∙◌}
use native.Mathlib.Omega.{arith}
use lib.IntN.{pos}
use mir.Syntax.{w64}
use mir.Val.{SFits}
use mir.Facts.{to_z_pos}
use borrow.Author.Rules.{rules}
use Rattle.laws.proofs.Filling.{filled_next, filled-from}
use Rattle.paper.specs.Flow.{shocked}
use Rattle.paper.specs.Ledger.{Totals}
use Rattle.paper.specs.Change.{tolerance_of, tolerance}
use Rattle.arrays.specs.Rooms.{totals_by}
use Rattle.change.proofs.Bounds.{tolerance-most}
use Rattle.change.proofs.fill_tolerances.Goals as goal
use Rattle.change.proofs.fill_tolerances.Goals.{After-tolerance_of}

-- the tolerance of this turn
module _ (c : After-tolerance_of) where
  abbrev t : Totals
  t = totals_by c.args.cells.now [] []

  tolerance-is : c.tolerance_of.result.0 ≡ tolerance t 1 (c.loop-i.i + 1)
  unfolding tolerance
  tolerance-is = c.tolerance_of.ensures ∙ ap tolerance_of (ap₂ ◌+◌ c.net_size-base.ensures c.net_size.ensures)

  fits : SFits w64 (pos c.tolerance_of.result.0)
  fits =
      record { sfits = omega (arith, tolerance-is, tolerance-most t 1 (c.loop-i.i + 1) (c.requires.by_index 0 (omega arith)) (c.requires.by_index (c.loop-i.i + 1) (omega arith))) }

pub overflow_cast-tolerance : goal.overflow_cast-tolerance
overflow_cast-tolerance c = fits (goal.at.overflow_cast-tolerance c).After-tolerance_of

pub loop-i-preserved : goal.loop-i-preserved
loop-i-preserved c =
    let at = c.loop-i in
    let a = (goal.at.loop-i-preserved c).After-tolerance_of in
    let is = to_z_pos w64 {n = c.tolerance_of.result.0} (fits a).sfits ∙ ap pos (tolerance-is a) in
    filled_next (pos 0) _ at.tolerances at.i _ at.invariant is (search rules)

pub returns : goal.returns
returns c = let at = c.loop-i in filled-from (pos 0) _ 1 at.tolerances shocked (omega arith) (λ j o. at.invariant j (omega arith))
