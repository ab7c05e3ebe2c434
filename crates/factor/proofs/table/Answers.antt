-- `table` meets its contract: its numbers are those that the paper has written, each tested by the series.
use Rattle.laws.specs.Lists.{tabulate_from}
use Rattle.paper.proofs.FactorTable.{table, written}
use Rattle.factor.proofs.Entries.{written-rows}
use Rattle.factor.proofs.table.Goals as goal

pub returns : goal.returns
unfolding tabulate_from written table
returns c = written-rows
