-- Each sum passed has its own addition; the others are as they were.
use mathlib.Core.Path.{refl}
use native.Mathlib.Nat.{add-zero}
use native.Mathlib.Omega.{arith}
use borrow.Author.Rules.{rules}
use Rattle.posting.proofs.Loops.{joining-none, joining-rest, joining-next, joining-done}
use Rattle.posting.proofs.room.grow.Goals as goal

pub loop-i-init : goal.loop-i-init
loop-i-init c = (search rules, joining-none add-zero _ _)

pub overflow_add-sums : goal.overflow_add-sums
overflow_add-sums c =
    let at = c.loop-i in
    let now = joining-rest add-zero at.invariant.1 at.i (search rules) (search rules) in
    record { fits = omega (arith, now, c.requires.at_most at.i, c.requires.at_most_2 at.i) }

pub loop-i-preserved : goal.loop-i-preserved
loop-i-preserved c =
    let at = c.loop-i in
    (search rules, joining-next add-zero at.invariant.1 refl (search rules))

pub returns : goal.returns
returns c = joining-done add-zero c.loop-i.invariant.1 (search rules)
