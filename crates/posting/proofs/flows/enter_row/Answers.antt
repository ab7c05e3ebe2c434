-- One row, which every scenario has: it is tested as one size, and entered.
use mathlib.Core.Path.{refl}
use borrow.Author.Rules.{rules}
use Rattle.posting.proofs.Limit.{entered-done, entered-not, same_size}
use Rattle.posting.proofs.flows.enter_row.Goals as goal

pub returns-in_err-admit : goal.returns-in_err-admit
returns-in_err-admit c = entered-not _ c.args.side _ c.requires.flow_parts.sizes-long (same_size c.args.size.0) c.admit.ensures c.in_err-admit.was (search rules) refl

pub returns : goal.returns
returns c = entered-done _ c.args.side _ c.requires.flow_parts.sizes-long (same_size c.args.size.0) c.admit.ensures c.in_ok-admit.was refl c.add_row.ensures
