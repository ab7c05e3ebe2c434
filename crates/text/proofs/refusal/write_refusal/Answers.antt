-- One line, on a page that was new.
use mathlib.Core.List.{[], ◌∷◌}
use native.Mathlib.Omega.{arith}
use borrow.Author.Rules.{rules}
use lib.IntN.{pos}
use Rattle.paper.specs.Program.{refusal_text}
use Rattle.text.proofs.Items.{line-length}
use Rattle.text.proofs.Pages.{on-new-page}
use Rattle.text.proofs.refusal.write_refusal.Goals as goal

pub returns : goal.returns
unfolding refusal_text
returns c =
    let short = line-length 82 (pos c.args.number ∷ pos c.args.place ∷ []) in
    let whole = on-new-page {most = 64} c.line.ensures c.new-page.ensures.nothing_written c.new-page.ensures.as_it_was c.written.ensures (omega arith) (search rules) in
    record { value = whole.0; out_after = whole.1 }
