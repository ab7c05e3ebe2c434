-- `cap_of` meets its contract, category by category.
use mathlib.Core.Path.{sym}
use borrow.Author.Rules.{rules}
use Rattle.rules.proofs.DepositLaws.{uncapped}
use Rattle.rules.proofs.deposit.cap_of.Goals as goal

pub returns-in_default : goal.returns-in_default
returns-in_default c =
    (sym (uncapped _ _ _ _ c.in_default.in_default-own.rest.0.0.1 c.in_default.in_default-own.rest.0.1 c.in_default.in_default-own.rest.1), search rules)
