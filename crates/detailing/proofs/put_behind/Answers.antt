-- The arrays are those of the records kept, and the counts those of their places.
use mathlib.Core.Path.{sym, ap, ◌∙◌}
use native.Mathlib.Omega.{arith}
use lib.ListN.{length}
use Rattle.paper.specs.Detail.{places}
use Rattle.paper.proofs.Detail.{never}
use Rattle.book.proofs.Outcome.{all-sized, bounds-hold}
use Rattle.tally.proofs.Progress.{counts-long}
use Rattle.detailing.proofs.KeptText.{loaded-text}
use Rattle.detailing.proofs.put_behind.Goals as goal

pub load-requires : goal.load-requires
load-requires c = c.new-working.ensures.nothing_kept

pub behind_of-requires : goal.behind_of-requires
behind_of-requires c =
    let loads = c.load.ensures.loads in
    let all = loads.all _ c.in-Ok.is in
    record {
      counts_len = (
        ap length c.tally-count.ensures.counts_after ∙ counts-long c.args.book.now (places c.args.book.now),
        (all-sized _ _ _ loads.arrays all).ledger-long,
      );
      bounds = bounds-hold _ _ _ loads.arrays all;
    }

pub returns-in-Err : goal.returns-in-Err
returns-in-Err c =
    let stopped = c.load.ensures.loads.stopped _ c.in-Err.is in
    record { upper_bound = omega arith; adds = λ kept e. never (sym stopped ∙ e) }

pub returns-in-Ok : goal.returns-in-Ok
returns-in-Ok c =
    let loads = c.load.ensures.loads in
    let counted = c.tally-count.ensures in
    let standing = c.args.standing.now in
    let b = c.behind_of.ensures in
    record {
      upper_bound = omega (arith, c.put.ensures.text.wrote.next-is, c.put.ensures.longest);
      adds =
          λ kept e. rw (sym (loaded-text c.args.book.now _ loads.arrays _ (loads.all _ c.in-Ok.is) _ _ standing.measure.0 standing.tier1.0 kept counted.counts_after counted.value e))
          (rw (b.arrays.0, b.arrays.1, b.arrays.2, b.counts.0, b.counts.1) at c.put.ensures.text, rw (b.arrays.0, b.arrays.1, b.arrays.2, b.counts.0, b.counts.1) at c.put.ensures.longest);
    }
