-- `interest_alone` meets its contract: no bucket so far has its interest alone, and what is scheduled is kept.
use Prim.Native.Nat.{ℕ}
use mathlib.Core.Bool.{◌&&◌}
use mathlib.Core.Path.{◌≡◌, sym, ap, ◌∙◌}
use native.Mathlib.Omega.{arith}
use borrow.Author.Tests.{lt-ltb}
use Rattle.laws.specs.Tests.{◌is◌, ◌below◌}
use Rattle.rules.proofs.LoanLaws.{passed_none, passed-covers, passed-more, passed-stops, passed-ends}
use Rattle.rules.proofs.loan.interest_alone.Goals as goal

pub loop-k-init : goal.loop-k-init
loop-k-init c = passed_none _ _ c.requires.principal_value

pub returns-then-alone : goal.returns-then-alone
returns-then-alone c =
    let test = sym (c.alone.ensures ∙ ap (λ (x : ℕ). 0 below x && c.loop-k.scheduled.0 is 0) c.money_at-interest.ensures.0) ∙ c.if-alone.true in
    rw (passed-stops _ _ _ c.loop-k-test.true c.loop-k.invariant test, lt-ltb _ _ c.loop-k-test.true)

pub overflow_sub-scheduled : goal.overflow_sub-scheduled
overflow_sub-scheduled c = rw c.money_at.ensures.0 (passed-covers _ _ _ c.loop-k-test.true c.loop-k.invariant)

pub loop-k-preserved : goal.loop-k-preserved
loop-k-preserved c =
    let test = sym (c.alone.ensures ∙ ap (λ (x : ℕ). 0 below x && c.loop-k.scheduled.0 is 0) c.money_at-interest.ensures.0) ∙ c.if-alone.false in
    rw c.money_at.ensures.0 (passed-more _ _ _ c.loop-k-test.true c.loop-k.invariant test)

pub returns : goal.returns
returns c =
    let e : c.loop-k.k ≡ 19 = omega arith in
    rw (passed-ends _ _ (rw e at c.loop-k.invariant))
