-- `take_record`: the body lies in the book, and a fault of it is told where the record begins.
use native.Mathlib.Omega.{arith}
use Rattle.arrays.specs.Arrays.{Arrays}
use Rattle.kinds.specs.Kind.{kind_number}
use Rattle.lending.specs.Records.{tested}
use Rattle.lending.specs.Working.{arrays_in}
use Rattle.reader.proofs.Places.{Whole, found-at}
use Rattle.turn.proofs.TurnLaws.{InBook, in-book, body_in, refused-as, fault-inside, placed-taken, placed-refused, turn-record}
use Rattle.turn.proofs.take_record.Goals as goal
use Rattle.turn.proofs.take_record.Goals.{Start}

-- where the record lies
module _ (s : Start) where
  whole : Whole s.args.book.now s.args.found.at s.args.found
  whole = found-at _ _ s.requires.0

  within : InBook s.args.book.now s.args.found
  within = in-book whole

-- the arrays as they were found
abbrev found : Start → Arrays
found s = arrays_in s.args.working.now

pub overflow_add-body : goal.overflow_add-body
overflow_add-body c = let w = within (goal.at.overflow_add-body c).Start in record { fits = omega (arith, w.within) }

pub slice_bounds-body-count : goal.slice_bounds-body-count
slice_bounds-body-count c = (within (goal.at.slice_bounds-body-count c).Start).starts

pub slice_bounds-body-start : goal.slice_bounds-body-start
slice_bounds-body-start c = (within (goal.at.slice_bounds-body-start c).Start).starts

pub slice_bounds-body-end : goal.slice_bounds-body-end
slice_bounds-body-end c = (within (goal.at.slice_bounds-body-end c).Start).ends

pub take_body-requires : goal.take_body-requires
take_body-requires c = let w = within (goal.at.take_body-requires c).Start in (w.long, c.requires.1)

pub placed-requires : goal.placed-requires
placed-requires c =
    let s = (goal.at.placed-requires c).Start in
    omega (arith, (within s).within, fault-inside (tested c.args.masks.curved (found s)) (kind_number c.args.found.kind) (body_in c.args.book.now c.args.found) c.in-Err.fault (refused-as _ c.in-Err.ensures.steps.answered))

pub returns-in-Ok-clause-turns : goal.returns-in-Ok-clause-turns
returns-in-Ok-clause-turns c = turn-record _ (whole (goal.at.returns-in-Ok-clause-turns c).Start) (placed-taken _ _ _ _ _ _ c.in-Ok.ensures.steps)

pub returns-in-Err-clause-turns : goal.returns-in-Err-clause-turns
returns-in-Err-clause-turns c = rw c.placed.ensures (turn-record _ (whole (goal.at.returns-in-Err-clause-turns c).Start) (placed-refused _ _ _ _ _ _ c.in-Err.ensures.steps))
