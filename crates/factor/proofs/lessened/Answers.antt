-- `lessened` meets its contract: what comes off is a small part of the product.
use Prim.Native.Nat.{◌*◌, ◌-◌, ◌^◌, ◌≤◌}
use native.Mathlib.Nat.{le_of_lt, mul_assoc, mul-le-mul, mul-le-mul_left, mul-sub}
use native.Mathlib.Omega.{arith}
use Rattle.laws.proofs.Nearest.{nearest-even}
use Rattle.factor.proofs.lessened.Goals as goal
use Rattle.factor.proofs.lessened.Goals.{Start}

-- digit times weight is at most 10^5
part-most : (c : Start) → c.args.product * c.args.digit * c.args.weight ≤ c.args.product * 10 ^ 5
part-most c = rw (mul_assoc c.args.product c.args.digit c.args.weight) (mul-le-mul_left c.args.product (mul-le-mul (le_of_lt c.requires.1) c.requires.2))

pub overflow_mul-result : goal.overflow_mul-result
overflow_mul-result c = omega (arith, mul-le-mul c.requires.0 (le_of_lt c.requires.1))

pub overflow_mul-result-2 : goal.overflow_mul-result-2
overflow_mul-result-2 c = omega (arith, part-most c)

pub overflow_add-result : goal.overflow_add-result
overflow_add-result c = omega (arith, part-most c)

pub overflow_sub-result : goal.overflow_sub-result
overflow_sub-result c = omega (arith, part-most c)

pub returns : goal.returns
returns c =
    let n = c.args.product in
    let part = c.args.digit * c.args.weight in
    let less = mul-sub n (10 ^ 10) part in
    let same = mul_assoc n c.args.digit c.args.weight in
    rw (nearest-even (n * (10 ^ 10 - part)) 5000000000) (omega (arith, part-most c))
