-- What the loop of `skip` keeps, and why it ends.
use Rattle.std.proofs.Common.{length}
use Rattle.cases.specs.Rest.{IsRest}
use Rattle.cases.proofs.scan.skip.Given as goal

abbrev pub invariant-loop-first : goal.invariant-loop-first
invariant-loop-first l = IsRest l.text l.rest

abbrev pub decreases-loop-first : goal.decreases-loop-first
decreases-loop-first l = length l.rest
