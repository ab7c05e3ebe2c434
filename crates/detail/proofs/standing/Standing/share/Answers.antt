-- The library's division rounds up as the paper's does.
use Prim.Native.Nat.{ℕ, ◌+◌, ◌*◌, ◌-◌, ◌/◌, ◌≤◌}
use mathlib.Core.Path.{◌≡◌, sym, ◌∙◌}
use native.Mathlib.Nat.{suc-mul, div-eq_of_lt-le}
use native.Mathlib.Omega.{arith}
use Rattle.std.specs.Int.{div_ceil}
use Rattle.std.proofs.lemmas.Grind.{div_ceil_times}
use Rattle.laws.specs.Nearest.{rounded_up}
use Rattle.paper.specs.Detail.{share}
use Rattle.detail.proofs.standing.Standing.share.Goals as goal

ceil-is : (a b : ℕ) → 1 ≤ b → div_ceil a b ≡ (a + (b - 1)) / b
ceil-is a b h =
    let times = div_ceil_times a b h in
    sym (div-eq_of_lt-le {k = div_ceil a b} b (omega (arith, times.1)) (omega (arith, times.0, suc-mul (div_ceil a b) b)))

pub returns : goal.returns
unfolding share rounded_up
returns c =
    let standing = c.args.self.now in
    c.div_ceil.ensures ∙ ceil-is (10000 * standing.measure.0) standing.tier1.0 (omega arith)
