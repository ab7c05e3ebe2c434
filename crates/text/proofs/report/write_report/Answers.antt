-- The report, on a page that was new.
use borrow.Author.Rules.{rules}
use Rattle.text.proofs.Pages.{on-new-page}
use Rattle.text.proofs.report.write_report.Goals as goal

pub returns : goal.returns
returns c =
    let whole = on-new-page c.report.ensures.0 c.new-page.ensures.nothing_written c.new-page.ensures.as_it_was c.written.ensures c.report.ensures.1 (search rules) in
    record { value = whole.0; out_after = whole.1 }
