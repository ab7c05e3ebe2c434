-- What the loop of `add_cells` keeps.
use lib.IntN.{pos, ◌+ℤ◌}
use lib.ListN.{get_or}
use Rattle.posting.proofs.Loops.{Joining}
use Rattle.posting.proofs.cells.add_cells.Given as goal

abbrev pub invariant-loop-j : goal.invariant-loop-j
invariant-loop-j l =
    Joining ◌+ℤ◌ (pos 0) l.j (λ k. get_or l.flows k (pos 0)) l.initial.cells l.cells
