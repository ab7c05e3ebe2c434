-- `tolerance_of` meets its contract.
use native.Mathlib.Omega.{arith}
use borrow.Author.Tests.{eq-eqb, ne_eqb}
use Rattle.laws.specs.Nearest.{rounded_up}
use Rattle.paper.specs.Change.{tolerance_of}
use Rattle.change.proofs.tolerance_of.Goals as goal

pub returns-then-size-eq0 : goal.returns-then-size-eq0
unfolding tolerance_of
returns-then-size-eq0 c = rw (eq-eqb _ _ c.if-size-eq0.true)

pub returns-else-size-eq0 : goal.returns-else-size-eq0
unfolding tolerance_of rounded_up
returns-else-size-eq0 c = rw (ne_eqb _ _ c.if-size-eq0.false) (omega arith)
