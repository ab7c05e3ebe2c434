-- What the loop of `raise_first` keeps.
use Prim.Native.Nat.{ℕ, ◌+◌, ◌*◌, ◌/◌, ◌%◌}
use mathlib.Core.List.{List}
use lib.ListN.{get_or}
use Rattle.std.specs.Prelude.{if◌then◌else◌}
use Rattle.laws.specs.Tests.{◌is◌}
use Rattle.posting.proofs.Loops.{Joining}
use Rattle.behaviour.proofs.term_deposit.raise_first.Given as goal

-- what is added, by the place in the rows
abbrev pub first : List ℕ → ℕ → ℕ
first early j = if j % 19 is 0 then get_or early (j / 19) 0 else 0

abbrev pub invariant-loop-i : goal.invariant-loop-i
invariant-loop-i l = Joining ◌+◌ 0 (19 * l.i) (first l.early) l.initial.rows l.rows
