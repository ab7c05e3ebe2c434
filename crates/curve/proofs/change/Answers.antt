-- `change` meets its contract, scenario by scenario.
use mathlib.Core.Path.{◌≡◌, refl, sym, ◌∙◌}
use native.Mathlib.Omega.{arith}
use lib.IntN.{ℤ, pos, neg_ℤ, negsuc, ◌*ℤ◌}
use mir.Facts.{to_z-of_z}
use mir.Syntax.{w64}
use mir.Val.{to_z, of_z}
use Rattle.laws.proofs.Widths.{Small, back, small_pos, small-le, small-neg, small_mul, small-fits}
use Rattle.paper.specs.Curve.{rate_changes}
use Rattle.curve.proofs.Changes.{steepener, flattener, short-alone, no_change}
use Rattle.curve.proofs.change.Goals as goal
use Rattle.curve.proofs.change.Goals.{After-from-p}

parallel-is : (c : After-from-p) → to_z w64 (of_z w64 c.from-p.result) ≡ pos c.args.shocks.parallel
parallel-is c = rw (back w64 c.from-p.result c.from-p.type_inv) c.from-p.ensures

shift : (c : After-from-p) {weight : ℤ} → Small 100 weight → Small 100000 (weight *ℤ pos c.args.shocks.parallel)
shift c {weight} h = small_mul {a = weight} h (small-le c.requires.sized.parallel-most (small_pos c.args.shocks.parallel))

up : (c : After-from-p) → Small 100000 (pos 100 *ℤ pos c.args.shocks.parallel)
up c = shift c (small_pos 100)

down : (c : After-from-p) → Small 100000 (negsuc 99 *ℤ pos c.args.shocks.parallel)
down c = shift c (small-neg (small_pos 100))

pub overflow_mul-result : goal.overflow_mul-result
overflow_mul-result c = rw (parallel-is (goal.at.overflow_mul-result c).After-from-p) (small-fits tt (up (goal.at.overflow_mul-result c).After-from-p))

pub overflow_mul-result-in-2 : goal.overflow_mul-result-in-2
overflow_mul-result-in-2 c = rw (parallel-is (goal.at.overflow_mul-result-in-2 c).After-from-p) (small-fits tt (down (goal.at.overflow_mul-result-in-2 c).After-from-p))

pub returns-in-1 : goal.returns-in-1
unfolding rate_changes
returns-in-1 c = rw (c.in-1.is, to_z-of_z (overflow_mul-result c), parallel-is (goal.at.returns-in-1 c).After-from-p) record { result_value = refl; result_bound = omega (arith, (up (goal.at.returns-in-1 c).After-from-p).small) }

pub returns-in-2 : goal.returns-in-2
unfolding rate_changes
returns-in-2 c = rw (c.in-2.is, to_z-of_z (overflow_mul-result-in-2 c), parallel-is (goal.at.returns-in-2 c).After-from-p) record { result_value = refl; result_bound = omega (arith, (down (goal.at.returns-in-2 c).After-from-p).small) }

pub returns-in-3 : goal.returns-in-3
returns-in-3 c = rw c.in-3.is record { result_value = c.twist.ensures.result_value ∙ steepener _ _; result_bound = c.twist.ensures.result_bound }

pub returns-in-4 : goal.returns-in-4
returns-in-4 c = rw c.in-4.is record { result_value = c.twist-in-4.ensures.result_value ∙ flattener _ _; result_bound = c.twist-in-4.ensures.result_bound }

pub returns-in-5 : goal.returns-in-5
unfolding rate_changes
returns-in-5 c = rw c.in-5.is record { result_value = c.twist-in-5.ensures.result_value ∙ short-alone _ _ (pos 100); result_bound = c.twist-in-5.ensures.result_bound }

pub returns-in-6 : goal.returns-in-6
unfolding rate_changes
returns-in-6 c = rw c.in-6.is record { result_value = c.twist-in-6.ensures.result_value ∙ short-alone _ _ (neg_ℤ (pos 100)); result_bound = c.twist-in-6.ensures.result_bound }

pub returns-in_default : goal.returns-in_default
returns-in_default c = record { result_value = sym (no_change _ _ _ (λ h. omega arith)); result_bound = omega arith }
