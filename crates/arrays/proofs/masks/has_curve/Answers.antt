-- The shift brings the digit to the lowest place.
use Prim.Native.Nat.{ℕ, ◌-◌}
use mathlib.Core.Path.{sym, ap}
use lib.Dec.{eqb}
use Rattle.laws.specs.Digits.{has}
use Rattle.arrays.specs.Masks.{curved_by}
use Rattle.laws.proofs.Digits.{bit_shifted}
use Rattle.arrays.proofs.masks.has_curve.Goals as goal

pub returns : goal.returns
unfolding curved_by has
returns c = ap (λ (x : ℕ). eqb x 1) (sym (bit_shifted c.args.curved (c.args.currency - 1)))
