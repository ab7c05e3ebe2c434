-- `too_long` meets its contract: the product fits.
use Prim.Native.Nat.{ℕ, ◌*◌}
use mathlib.Core.Path.{ap}
use native.Mathlib.Nat.{mul-le-mul_right}
use native.Mathlib.Omega.{arith}
use Rattle.laws.specs.Tests.{◌below◌}
use Rattle.rules.proofs.deposit.too_long.Goals as goal

pub overflow_mul-result : goal.overflow_mul-result
overflow_mul-result c =
    record { fits = omega (arith, mul-le-mul_right c.args.core.0 c.cap_of.ensures.1) }

pub returns : goal.returns
returns c =
    ap (λ (cap : ℕ). cap * c.args.core.0 below c.args.weighed) c.cap_of.ensures.0
