-- The walk is where the reader is, with the records kept in its arrays.
use Rattle.std.proofs.Common.{◌≡◌}
use Rattle.lending.specs.Working.{arrays_in}
use Rattle.load.proofs.WalkLaws.{Reading}
use Rattle.load.proofs.walk.walk.Given as goal

abbrev pub invariant-loop-found : goal.invariant-loop-found
invariant-loop-found l =
    (goal.iterator-loop-found).can_next l.found-iterator × (goal.iterator-loop-found).is_finite l.found-iterator
    × Reading l.book (arrays_in l.working) l.found-iterator l.masks × (l.working.ledger.ghost_name ≡ l.initial.working.ledger.ghost_name)
