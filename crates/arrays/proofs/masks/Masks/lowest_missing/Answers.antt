-- `lowest_missing` counts the digits below the first that the difference of the masks has: thirty-two where it has none.
use Prim.Native.Nat.{◌-◌}
use mathlib.Core.Path.{refl}
use native.Mathlib.Omega.{arith}
use lib.Bits.{bit_and}
use lib.Count.{trailing_le}
use Rattle.arrays.proofs.Sets.{by-trailing-zeros}
use Rattle.arrays.proofs.masks.Masks.lowest_missing.Goals as goal

pub overflow_add-lowest : goal.overflow_add-lowest
overflow_add-lowest c =
    let m = c.args.self in
    record { fits = omega (arith, trailing_le 32 (bit_and m.used (4294967295 - m.curved))) }

pub returns : goal.returns
returns c = rw (c.then_some.ensures, by-trailing-zeros c.args.self (omega arith)) refl
