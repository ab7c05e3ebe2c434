-- `by_end` meets its contract: in the end's own month the days decide.
use Prim.Native.Nat.{◌≤◌, ◌<◌}
use mathlib.Core.Path.{◌≡◌}
use native.Mathlib.Omega.{arith}
use borrow.Author.Tests.{le-leb, lt-leb}
use Rattle.ladder.proofs.Ends.{in-earlier-month, in-same-month}
use Rattle.ladder.proofs.by_end.Goals as goal

pub returns-then-months-end : goal.returns-then-months-end
returns-then-months-end c = let earlier = c.if-months-end.true in rw in-earlier-month

pub returns-then-days-day : goal.returns-then-days-day
returns-then-days-day c =
    let a = c.args in
    let same : a.months ≡ a.end = omega arith in
    let in-time : a.days ≤ a.day = omega arith in
    rw (in-same-month, le-leb _ _ in-time)

pub returns-else-days-day : goal.returns-else-days-day
returns-else-days-day c =
    let a = c.args in
    let same : a.months ≡ a.end = omega arith in
    let late : a.day < a.days = omega arith in
    rw (in-same-month, lt-leb _ _ late)
