-- What the loop of `value_of` keeps.
use mathlib.Core.List.{[]}
use mathlib.Core.Path.{◌≡◌}
use Rattle.laws.specs.Sums.{sum_ℤ}
use Rattle.arrays.specs.Rooms.{totals_by}
use Rattle.change.proofs.Bounds.{weighed}
use Rattle.change.proofs.value_of.Given as goal

abbrev pub invariant-loop-k : goal.invariant-loop-k
invariant-loop-k l = l.sum ≡ sum_ℤ (weighed (totals_by l.cells [] l.rates) 1 l.scenario) l.k
