-- What the loop of `put_bytes` keeps, and why it ends.
use Rattle.std.proofs.Common.{◌≤◌, length}
use Rattle.cases.specs.Rest.{IsRest}
use Rattle.cases.proofs.bytes.put_bytes.Given as goal

abbrev pub invariant-loop-rest : goal.invariant-loop-rest
invariant-loop-rest l = IsRest l.text l.rest × (l.filled ≤ length l.bytes)

abbrev pub decreases-loop-rest : goal.decreases-loop-rest
decreases-loop-rest l = length l.rest
