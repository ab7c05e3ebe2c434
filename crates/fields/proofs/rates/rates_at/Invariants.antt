-- What the loop of `rates_at` keeps.
use Rattle.fields.proofs.RateLaws.{Filled}
use Rattle.fields.proofs.rates.rates_at.Given as goal

abbrev pub invariant-loop-k : goal.invariant-loop-k
invariant-loop-k l = Filled l.body l.from l.initial.rates l.k l.rates
