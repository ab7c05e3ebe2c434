-- `last_of` counts the digits up to the highest that the mask has.
use native.Mathlib.Omega.{arith}
use lib.Count.{leading_le}
use Rattle.arrays.proofs.Last.{by-leading-zeros}
use Rattle.arrays.proofs.masks.last_of.Goals as goal

pub overflow_sub-result : goal.overflow_sub-result
overflow_sub-result c = omega (arith, leading_le 32 c.args.mask)

pub returns : goal.returns
returns c = by-leading-zeros c.args.mask c.ranges.mask.fits
