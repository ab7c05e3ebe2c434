-- `after_digits` meets its contract: the digits in two parts.
use mathlib.Core.Path.{ap₂, ◌∙◌}
use native.Mathlib.Nat.{le_trans, mod-lt}
use native.Mathlib.Omega.{arith}
use lib.Dec.{lit<}
use Rattle.paper.specs.Factor.{after_digits}
use Rattle.paper.proofs.FactorClose.{after-most}
use Rattle.paper.proofs.FactorDigits.{in_parts}
use Rattle.factor.proofs.after_digits.Goals as goal

pub after_last_digits-requires : goal.after_last_digits-requires
after_last_digits-requires c =
    let b = c.after_first_digits-begun.ensures in
    (rw b.0 (le_trans (after-most _ _ _) c.requires.0), rw b.1 (mod-lt _ (lit< tt)))

pub returns : goal.returns
returns c =
    let b = c.after_first_digits-begun.ensures in
    c.after_last_digits.ensures
    ∙ ap₂ (λ n l. after_digits n l 11) b.0 b.1
    ∙ in_parts _ _ 6 11 (omega arith) (omega arith)
