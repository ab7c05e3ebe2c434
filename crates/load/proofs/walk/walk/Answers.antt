-- `walk`: one reader goes through the book, and each record that it gives is taken, until one is refused or they end.
use mathlib.Core.Path.{refl, ap, ◌∙◌}
use Rattle.std.proofs.lemmas.Result.{err_from_is_err_and}
use Rattle.lending.specs.Working.{arrays_in}
use Rattle.load.proofs.Invariant.{begun, holds}
use Rattle.load.proofs.WalkLaws.{walks-ended, walks-unread, found-here, walks-on, walks-off}
use Rattle.load.proofs.walk.walk.Goals as goal

pub loop-found-init : goal.loop-found-init
loop-found-init c =
    let new = c.new-found-items.ensures in
    rw c.into_iter-found-iterator.ensures.into_iter_gives (tt, tt, record { own = ap (λ b. b.now) new.0; walking = rw new.1 (begun _ _ c.requires) }, refl)

pub returns-in_err-found-clause-walks : goal.returns-in_err-found-clause-walks
returns-in_err-found-clause-walks c =
    let told = err_from_is_err_and c.from_residual.result c.from_residual.ensures.1 in
    rw (told.1, told.2) (walks-unread c.loop-found.invariant.2 (rw c.in_err-found.was at c.in-Some.ensures.steps))

pub take_record-requires : goal.take_record-requires
take_record-requires c =
    (found-here c.loop-found.invariant.2 (rw c.in_ok-found.was at c.in-Some.ensures.steps), holds _ _ _ _ c.loop-found.invariant.2.walking)

pub returns-in_err-masks-clause-walks : goal.returns-in_err-masks-clause-walks
returns-in_err-masks-clause-walks c =
    let told = err_from_is_err_and c.from_residual-in_err-masks.result c.from_residual-in_err-masks.ensures.1 in
    let l = c.take_record.new in
    rw (told.1, told.2)
    (walks-off c.loop-found.invariant.2 (rw c.in_ok-found.was at c.in-Some.ensures.steps) {a' = arrays_in l.working}
    (rw c.in_err-masks.was at c.take_record.ensures.turns))

pub loop-found-preserved : goal.loop-found-preserved
loop-found-preserved c =
    let l = c.take_record.new in (
      tt,
      tt,
      walks-on c.loop-found.invariant.2 (rw c.in_ok-found.was at c.in-Some.ensures.steps) {a' = arrays_in l.working} (rw c.in_ok-masks.was at c.take_record.ensures.turns),
      c.take_record.ensures.same_ledger ∙ c.loop-found.invariant.3,
    )

pub returns-clause-walks : goal.returns-clause-walks
returns-clause-walks c = walks-ended c.loop-found.invariant.2 c.in-None.ensures.steps
