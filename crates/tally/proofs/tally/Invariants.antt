-- What the loop of `tally` keeps, and why it ends.
use Prim.Native.Nat.{◌-◌}
use mathlib.Core.Path.{◌≡◌}
use lib.ListN.{length}
use Rattle.tally.proofs.Progress.{Counting}
use Rattle.tally.proofs.tally.Given as goal

abbrev pub invariant-loop-kind : goal.invariant-loop-kind
invariant-loop-kind l = (length l.counts ≡ length l.initial.counts) × Counting l.book l.counts l.count l.at

abbrev pub decreases-loop-kind : goal.decreases-loop-kind
decreases-loop-kind l = length l.book - l.at
