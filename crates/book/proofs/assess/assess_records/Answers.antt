-- `assess_records`: the two ways out are those of the paper's outcome.
use mathlib.Core.Path.{sym, ◌∙◌}
use native.Mathlib.Omega.{arith}
use Rattle.book.proofs.Outcome.{all-sized, answers-refused, bounds-hold, answers-reported}
use Rattle.book.proofs.assess.assess_records.Goals as goal

pub load-requires : goal.load-requires
load-requires c = c.new-working.ensures.nothing_kept

pub report_of-requires : goal.report_of-requires
report_of-requires c =
    let loads = c.load.ensures.loads in
    let all = loads.all _ c.in-Ok.is in
    record {
      report_len = (c.requires.report_len.0, (all-sized _ _ _ loads.arrays all).ledger-long);
      tier1_bound = c.requires.tier1_bound;
      bounds = bounds-hold _ _ _ loads.arrays all;
    }

pub returns-in-Err : goal.returns-in-Err
returns-in-Err c =
    answers-refused _ _ _ _ c.requires.report_len.1 _ _ _ (c.load.ensures.loads.stopped _ c.in-Err.is) (omega (arith, c.requires.report_len.1)) (c.fill.ensures.after (λ y e. e))

pub returns-in-Ok : goal.returns-in-Ok
returns-in-Ok c =
    let loads = c.load.ensures.loads in
    let same = c.ledger-in-Ok-1.given.1.1 (sym (c.load.ensures.same_ledger ∙ c.new-working.ensures.same_ledger)) in
    rw (c.report_of.ensures, same) (answers-reported _ _ _ _ c.requires.report_len.1 _ _ loads.arrays (loads.all _ c.in-Ok.is) c.requires.report_len.0)
