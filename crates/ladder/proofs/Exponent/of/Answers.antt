-- `Exponent::of` meets its contract: the product of a rate in range and a midpoint fits.
use native.Mathlib.Omega.{arith}
use mir.Facts.{to_z-of_z}
use mir.Syntax.{w64}
use Rattle.laws.proofs.Widths.{back, sfits-abs}
use Rattle.ladder.proofs.Reach.{product_small, exponent-is}
use Rattle.ladder.proofs.Exponent.of.Goals as goal

pub overflow_mul-result : goal.overflow_mul-result
overflow_mul-result c =
    rw (back w64 c.args.rate.0 c.struct_told-1.given.0.1, back w64 c.args.midpoint.0 c.struct_told-2-1.given.0.1)
    (sfits-abs _ (omega (arith, product_small _ _ c.requires.ranged c.requires.on_ladder)))

pub returns : goal.returns
returns c =
    rw (to_z-of_z (overflow_mul-result c), back w64 c.args.rate.0 c.struct_told-1.given.0.1, back w64 c.args.midpoint.0 c.struct_told-2-1.given.0.1)
    (exponent-is _ _ c.requires.ranged c.requires.on_ladder)
