use mathlib.Core.Path.{◌≡◌, sym, ◌∙◌}
use lib.ListN.{get_or}
use Rattle.laws.proofs.Lists.{tabulate-at}
use Rattle.fields.specs.Answers.{amounts_from}
use Rattle.behaviour.proofs.amounts.amount_of.Goals as goal

pub returns : goal.returns
returns c =
    let read : c.money_at.result.0 ≡ get_or (amounts_from c.args.body.now c.args.from) c.args.k 0 =
    c.money_at.ensures.0 ∙ sym (tabulate-at _ 19 c.args.k 0 c.requires.from_in_bounds.1) in
    (read, rw read (c.requires.at_most c.args.k))
