-- 17 and 16 by the input's length, else the book's answer.
use mathlib.Core.Path.{◌≡◌, refl}
use lib.ListN.{length}
use native.Mathlib.Omega.{arith}
use borrow.Author.Rules.{part_to_end}
use Rattle.paper.specs.declared.Refusal.TheVariants.{BadCapital, BookTooLong}
use Rattle.paper.specs.Refusals.{number_of}
use Rattle.paper.specs.Records.{currencies}
use Rattle.paper.specs.Ledger.{cells, figures}
use Rattle.paper.specs.Book.{touches_nothing}
use Rattle.book.proofs.Outcome.{untouched}
use Rattle.printing.proofs.Printing.{long-input, short-input, whole-input}
use Rattle.printing.proofs.answer.Goals as goal

pub returns-then-input-gt-LONGEST_INPUT : goal.returns-then-input-gt-LONGEST_INPUT
unfolding touches_nothing number_of
returns-then-input-gt-LONGEST_INPUT c =
    rw c.without_place.ensures (untouched BookTooLong (long-input _ (omega arith)) refl)

pub returns-then-input-lt-CAPITAL : goal.returns-then-input-lt-CAPITAL
unfolding touches_nothing number_of
returns-then-input-lt-CAPITAL c =
    rw c.without_place-then-input-lt-CAPITAL.ensures (untouched BadCapital (short-input _ (omega arith) (omega arith)) refl)

pub returns : goal.returns
returns c =
    let input = c.args.input.now in
    let report-long : length c.args.report.now ≡ figures currencies = omega arith in
    let ledger-long : length c.args.ledger.now ≡ cells currencies = omega arith in
    let own = rw (part_to_end input 8, c.capital_in-tier1.ensures, report-long, ledger-long) at c.assess.ensures.assesses.answers in
    rw (whole-input input (omega arith) (omega arith)) own
