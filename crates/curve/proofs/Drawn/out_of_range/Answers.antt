-- `out_of_range` meets its contract: the shocked scenarios are gone through.
use mathlib.Core.Path.{refl, ◌∙◌}
use borrow.Author.Rules.{rules}
use borrow.Author.Tests.{tests}
use Rattle.std.proofs.lemmas.Iterator.{YieldsList-from_range}
use Rattle.std.proofs.lemmas.Iterator.Search.{any_from_yields_List}
use Rattle.paper.specs.Curve.{shocked_rate}
use Rattle.paper.specs.TurnedDown.{bad_rate, bad_shocked}
use Rattle.curve.specs.Shocked.{curve_of}
use Rattle.curve.proofs.Rates.{any_listed}
use Rattle.curve.proofs.Drawn.out_of_range.Goals as goal

pub returns : goal.returns
unfolding bad_shocked
returns c =
    any_from_yields_List (λ i. bad_rate (shocked_rate (curve_of c.args.self.now.rates.now c.args.self.now.shocks) i c.args.k)) _ _ _ c.any.ensures.ran
    (YieldsList-from_range 1 7 6 refl refl)
    (λ x b q k. search (rules, tests))
    ∙ any_listed _ 1 6
