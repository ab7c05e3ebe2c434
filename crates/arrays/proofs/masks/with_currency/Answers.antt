-- `with_currency` sets the digit of the currency: a shift by less than the width loses nothing.
use Prim.Native.Nat.{◌-◌, ◌<◌, ◌^◌}
use native.Mathlib.Nat.{one-mul, mod-eq_of_lt}
use native.Mathlib.Omega.{arith}
use lib.Pow.{pow-lt}
use Rattle.arrays.proofs.masks.with_currency.Goals as goal

pub returns : goal.returns
returns c =
    let digit = c.args.currency - 1 in
    let fits : 2 ^ digit < 2 ^ 32 = pow-lt {i = digit} {j = 32} (omega arith) in
    rw (one-mul, mod-eq_of_lt fits)
