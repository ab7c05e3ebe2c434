-- `slot_values`: 14 by the magnitudes, then the values added.
use Prim.Native.Nat.{◌≤◌}
use mathlib.Core.Path.{◌≡◌, refl, sym, subst, ◌∙◌}
use native.Mathlib.Omega.{arith}
use lib.IntN.{pos, nat_abs}
use lib.ListN.{get_or}
use borrow.Author.Rules.{rules}
use Rattle.laws.specs.Lists.{tabulate}
use Rattle.laws.proofs.Lists.{tabulate-is}
use Rattle.paper.specs.Flow.{shocked}
use Rattle.posting.specs.Parts.{AtMost, trillion}
use Rattle.posting.proofs.Loops.{tabulate-all}
use Rattle.posting.proofs.Admission.{option-done, option-not}
use Rattle.slotting.proofs.Options.{option-sized, option-adds}
use Rattle.slotting.proofs.option_add_on.slot_values.Goals as goal
use Rattle.slotting.proofs.option_add_on.slot_values.Goals.{After-map}

-- what was tested are the magnitudes
magnitudes : (c : After-map) → c.map.result ≡ tabulate (λ j. nat_abs (get_or c.args.values j (pos 0))) shocked
magnitudes c = tabulate-is 0 c.map.result _ shocked c.map.ensures.items.long
    (λ j l. let k = (c.map.ensures.items.at j (pos 0) 0 l).2 in search rules)

pub admit-requires-clause-at_most_2 : goal.admit-requires-clause-at_most_2
admit-requires-clause-at_most_2 c =
    subst (AtMost trillion) (sym (magnitudes (goal.at.admit-requires-clause-at_most_2 c).After-map)) (tabulate-all (λ n. n ≤ trillion) _ shocked (λ j l. omega (arith, c.requires.values_bound j)) (search rules))

pub returns-in_err-admit : goal.returns-in_err-admit
returns-in_err-admit c currency =
    option-not _ c.requires.option_parts.sizes-long (option-sized currency c.args.side c.args.values _ (magnitudes (goal.at.returns-in_err-admit c).After-map)) c.admit.ensures c.in_err-admit.was (search rules) refl

pub returns : goal.returns
returns c currency =
    option-done _ c.requires.option_parts.sizes-long (option-sized currency c.args.side c.args.values _ (magnitudes (goal.at.returns c).After-map)) c.admit.ensures c.in_ok-admit.was refl
    (c.add_values.ensures ∙ option-adds currency c.args.side c.args.values _)
