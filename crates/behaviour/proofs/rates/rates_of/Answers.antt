use borrow.Author.Rules.{rules}
use Rattle.laws.specs.Lists.{tabulate_from}
use Rattle.paper.specs.Behaviour.{behavioural_rate}
use Rattle.behaviour.specs.Rows.{three_multipliers}
use Rattle.behaviour.proofs.rates.rates_of.Goals as goal

pub returns : goal.returns
unfolding tabulate_from behavioural_rate three_multipliers
returns c = search rules
