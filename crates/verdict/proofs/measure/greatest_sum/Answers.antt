-- `greatest_sum` meets its contract. The invariant is `Scanned`: the greatest sum so far, and the smallest scenario that reaches it.
use Prim.Native.Nat.{ℕ, ◌+◌, ◌-◌, ◌≤◌, ◌<◌}
use mathlib.Core.Path.{◌≡◌}
use native.Mathlib.Omega.{arith}
use Rattle.paper.specs.Flow.{shocked}
use Rattle.paper.specs.Verdict.{measure, worst}
use Rattle.laws.proofs.Scan.{Scanned, reaching, scanned-none, scanned-greater, scanned-same}
use Rattle.verdict.proofs.measure.greatest_sum.Goals as goal
use Rattle.verdict.proofs.measure.greatest_sum.Goals.{else-greatest-sum, then-greatest-sum}

-- one scenario more, after n
module _ {f : ℕ → ℕ} {n highest reached : ℕ} (scenario : ℕ) (after : n + 1 ≡ scenario) (s : Scanned f n highest reached) (x : ℕ) (is : x ≡ f scenario) where
  last : scenario + 1 - 1 ≡ n + 1
  last = omega arith

  greater : highest < x → Scanned f (scenario + 1 - 1) x scenario
  greater l = rw (last, ← after) (scanned-greater s x (rw after is) l)

  same : x ≤ highest → Scanned f (scenario + 1 - 1) highest reached
  same l = rw last (scanned-same s x (rw after is) l)

pub loop-scenario-init : goal.loop-scenario-init
loop-scenario-init c = scanned-none _

pub loop-scenario-preserved : goal.loop-scenario-preserved
loop-scenario-preserved c =
    let at = c.loop-scenario in
    let after : at.scenario - 1 + 1 ≡ at.scenario = omega arith in
    elim c.if-greatest-sum.branch [
      | then-greatest-sum w ↦ rw (w.greatest-is, w.reached-is) (greater at.scenario after at.invariant _ c.scenario_sum-sum.ensures w.if-greatest-sum.true)
      | else-greatest-sum w ↦ rw (w.greatest-is, w.reached-is) (same at.scenario after at.invariant _ c.scenario_sum-sum.ensures w.if-greatest-sum.false)
    ]

pub returns : goal.returns
unfolding measure worst reaching
returns c =
    let e : c.loop-scenario.scenario - 1 ≡ shocked = omega arith in
    let s = rw e at c.loop-scenario.invariant in
    record { sum_value = s.highest-is; scenario_value = s.reached-is }
