-- The library's digits are the paper's.
use native.Mathlib.Omega.{arith}
use Rattle.text.proofs.Decimals.{as_printed}
use Rattle.text.proofs.page.Page.natural.Goals as goal

pub returns : goal.returns
returns c = rw (← as_printed c.args.n (omega arith), ← c.format.ensures.text) c.text.ensures
