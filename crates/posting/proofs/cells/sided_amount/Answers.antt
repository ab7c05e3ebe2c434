use mathlib.Core.Path.{ap, ◌∙◌}
use native.Mathlib.Omega.{arith}
use mir.Facts.{to_z_pos}
use mir.Syntax.{w64}
use Rattle.paper.specs.Flow.{sided}
use Rattle.posting.proofs.cells.sided_amount.Goals as goal

pub sided-requires : goal.sided-requires
sided-requires c = rw (to_z_pos w64 {n = c.args.amount.0} (omega arith)) c.requires

pub returns : goal.returns
returns c =
    c.sided.ensures ∙ ap (sided c.args.side) (to_z_pos w64 {n = c.args.amount.0} (omega arith))
