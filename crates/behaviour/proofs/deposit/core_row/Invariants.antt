-- What the loop of `core_row` keeps.
use lib.ListN.{get_or}
use Rattle.fields.specs.Answers.{amounts_from}
use Rattle.laws.proofs.Filling.{Filled}
use Rattle.behaviour.proofs.deposit.core_row.Given as goal

abbrev pub invariant-loop-k : goal.invariant-loop-k
invariant-loop-k l = Filled 0 l.k (λ j. get_or (amounts_from l.body 6) j 0) l.cell-items
