-- `next`: past a record, or at the end after a refusal, fewer bytes are left.
use mathlib.Core.Path.{sym, ◌∙◌}
use native.Mathlib.Omega.{arith}
use Rattle.reader.proofs.Places.{moves-on}
use Rattle.reader.proofs.ReaderIterator.next.Goals as goal
use Rattle.reader.proofs.ReaderIterator.next.Goals.{in-Ok, in-Err}

pub returns-clause-goes : goal.returns-clause-goes
returns-clause-goes c =
    let on = moves-on _ _ _ (sym c.in_ok-found.was ∙ c.stands_at.ensures) in
    elim c.match-found.branch [
      | in-Ok w ↦ (let further = rw w.in-Ok.is at on in rw (w.found-is, w.self-is) record { on = λ f. (tt, tt, omega arith); keeps = tt; rests = λ f. tt })
      | in-Err w ↦ (let further = rw w.in-Err.is at on in rw (w.found-is, w.self-is) record { on = λ f. (tt, tt, omega arith); keeps = tt; rests = λ f. tt })
    ]
