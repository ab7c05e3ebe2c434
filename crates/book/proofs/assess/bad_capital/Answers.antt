-- `bad_capital`: 16 has two ends.
use mathlib.Core.Path.{◌∙◌}
use Rattle.std.proofs.Common.{arith}
use Rattle.book.proofs.Outcome.{capital-in}
use Rattle.book.proofs.assess.bad_capital.Goals as goal

pub returns : goal.returns
returns c = capital-in c.args.tier1.0 c.contains.result (c.contains.ensures.value ∙ rw (c.new.ensures.start, c.new.ensures.end, c.new.ensures.exhausted) (grind arith))
