-- `drawn` meets its contract: the first bucket with a shocked rate out of range is told, or there is none.
use Prim.Native.Nat.{ℕ}
use mathlib.Core.Path.{ap}
use native.Mathlib.Omega.{arith}
use borrow.Author.Tests.{lt-ltb}
use Rattle.std.specs.Prelude.{Err}
use Rattle.paper.specs.declared.Refusal.TheVariants.{OutOfRange}
use Rattle.paper.specs.Refusals.{◌>>◌, unless, fault}
use Rattle.record.proofs.Firsts.{some_first, no_first}
use Rattle.record.proofs.curves.drawn.Goals as goal

pub returns-in-Some : goal.returns-in-Some
unfolding unless ◌>>◌
returns-in-Some c =
    let f = some_first _ _ c.in-Some.ensures in
    rw (f.0, lt-ltb _ _ f.1) (ap (λ (p : ℕ). Err (fault OutOfRange p)) (omega arith))

pub returns : goal.returns
unfolding unless ◌>>◌
returns c = rw (no_first _ _ c.in_default.ensures)
