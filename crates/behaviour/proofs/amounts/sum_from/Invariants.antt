-- What the loop of `sum_from` keeps.
use Prim.Native.Nat.{◌*◌, ◌≤◌}
use mathlib.Core.Path.{◌≡◌}
use lib.ListN.{get_or}
use Rattle.laws.specs.Sums.{sum}
use Rattle.fields.specs.Answers.{amounts_from}
use Rattle.behaviour.proofs.amounts.sum_from.Given as goal

abbrev pub invariant-loop-k : goal.invariant-loop-k
invariant-loop-k l =
    (l.total.0 ≡ sum (λ j. get_or (amounts_from l.body l.from) j 0) l.k) × (l.total.0 ≤ l.k * 1000000000)
