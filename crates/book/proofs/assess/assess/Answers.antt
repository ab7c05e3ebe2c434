-- `assess`: 18, 17 and 16 in this order, then the records.
use mathlib.Core.Path.{sym, ◌∙◌}
use native.Mathlib.Omega.{arith}
use lib.Seq.{length-take-le}
use Rattle.paper.specs.Records.{currencies}
use Rattle.paper.specs.Ledger.{cells, figures}
use Rattle.book.proofs.Truth.{promised}
use Rattle.book.proofs.Outcome.{room-refused, room-enough, book-refused, capital-refused, capital-fits, by-records}
use borrow.Author.Rules.{rules}
use Rattle.book.proofs.assess.assess.Goals as goal

pub returns-then-room_too_small : goal.returns-then-room_too_small
returns-then-room_too_small c = let w = (promised (room-refused _ _ _ _ (sym c.room_too_small.ensures ∙ c.if-room_too_small.true))) in record { assesses = rw c.without_place.ensures w.0; truthful = w.1 }

pub returns-then-book-gt-LONGEST_BOOK : goal.returns-then-book-gt-LONGEST_BOOK
returns-then-book-gt-LONGEST_BOOK c = let w = (promised (book-refused _ _ _ _ (sym c.room_too_small.ensures ∙ c.if-room_too_small.false) c.if-book-gt-LONGEST_BOOK.true)) in record { assesses = rw c.without_place-then-book-gt-LONGEST_BOOK.ensures w.0; truthful = w.1 }

pub returns-then-bad_capital : goal.returns-then-bad_capital
returns-then-bad_capital c = let w = (promised (capital-refused _ _ _ _ (sym c.room_too_small.ensures ∙ c.if-room_too_small.false) (omega arith) (sym c.bad_capital.ensures ∙ c.if-bad_capital.true))) in record { assesses = rw c.without_place-then-bad_capital.ensures w.0; truthful = w.1 }

pub slice_bounds-assess_records-end : goal.slice_bounds-assess_records-end
slice_bounds-assess_records-end c = let long = room-enough _ _ (sym c.room_too_small.ensures ∙ c.if-room_too_small.false) in search (rules, long)

pub slice_bounds-assess_records-end-2 : goal.slice_bounds-assess_records-end-2
slice_bounds-assess_records-end-2 c = let long = room-enough _ _ (sym c.room_too_small.ensures ∙ c.if-room_too_small.false) in search (rules, long)

pub assess_records-requires : goal.assess_records-requires
assess_records-requires c =
    let long = room-enough _ _ (sym c.room_too_small.ensures ∙ c.if-room_too_small.false) in
    record { tier1_bound = (capital-fits _ (sym c.bad_capital.ensures ∙ c.if-bad_capital.false)).1; report_len = (length-take-le (figures currencies) c.args.report.now long.0, length-take-le (cells currencies) c.args.ledger.now long.1) }

pub returns : goal.returns
returns c = let w = promised (by-records _ _ _ _ (sym c.room_too_small.ensures ∙ c.if-room_too_small.false) (omega arith) (sym c.bad_capital.ensures ∙ c.if-bad_capital.false) _ _ _ c.assess_records.ensures) in record { assesses = w.0; truthful = w.1 }
