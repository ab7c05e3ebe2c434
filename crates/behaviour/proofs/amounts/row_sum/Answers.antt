use Prim.Native.Nat.{◌<◌}
use mathlib.Core.Path.{◌≡◌, ◌∙◌}
use native.Mathlib.Omega.{arith}
use borrow.Author.Rules.{rules}
use Rattle.std.specs.List as Added
use Rattle.behaviour.proofs.AmountRange.{added_is, added-few}
use Rattle.behaviour.proofs.amounts.row_sum.Goals as goal

pub sum-requires-clause-fits : goal.sum-requires-clause-fits
sum-requires-clause-fits c =
    let fits : Added.sum c.args.row.now < 18446744073709551616 = omega (arith, added-few c.args.row.now c.requires.0 c.requires.1) in
    search rules

pub returns : goal.returns
returns c = let added : c.sum.result ≡ Added.sum c.args.row.now = search rules in added ∙ added_is c.args.row.now
