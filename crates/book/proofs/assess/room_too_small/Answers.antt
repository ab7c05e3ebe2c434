-- `room_too_small`: 18 is on two rooms.
use mathlib.Core.Path.{sym, ◌∙◌}
use native.Mathlib.Omega.{arith}
use borrow.Author.Tests.{lt-ltb}
use Rattle.book.proofs.Outcome.{small-report, small-ledger}
use Rattle.book.proofs.assess.room_too_small.Goals as goal

pub returns-then-report-lt-FIGURES : goal.returns-then-report-lt-FIGURES
returns-then-report-lt-FIGURES c = lt-ltb _ _ c.if-report-lt-FIGURES.true ∙ sym (small-report c.args.report c.args.ledger (omega arith))

pub returns-else-report-lt-FIGURES : goal.returns-else-report-lt-FIGURES
returns-else-report-lt-FIGURES c = sym (small-ledger c.args.report c.args.ledger (omega arith))
