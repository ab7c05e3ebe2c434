-- Each word is a text of its own, between the letter and the newline.
use borrow.Author.Rules.{rules}
use lib.IntN.{pos}
use mir.Facts.{sfits_lit}
use mir.Syntax.{w64}
use Rattle.laws.proofs.Widths.{bits-eq}
use Rattle.paper.specs.Program.{verdict_word}
use Rattle.text.proofs.Words.{word-close}
use Rattle.text.proofs.page.Page.verdict.Goals as goal

pub returns-in-1 : goal.returns-in-1
unfolding verdict_word
returns-in-1 c =
    rw (bits-eq {w = w64} {b = pos 1} c.ranges.verdict (sfits_lit tt) (search rules)) c.text.ensures

pub returns-in-2 : goal.returns-in-2
unfolding verdict_word
returns-in-2 c =
    rw (bits-eq {w = w64} {b = pos 2} c.ranges.verdict (sfits_lit tt) (search rules)) c.text-in-2.ensures

pub returns-in_default : goal.returns-in_default
returns-in_default c =
    rw (word-close c.args.verdict (search rules) (search rules)) c.text-in_default.ensures
