-- `new`: the ledger's room is cleared, and the others are nil.
use Prim.Native.Nat.{ℕ}
use mathlib.Core.Path.{refl, sym, ap, ◌∙◌}
use lib.IntN.{pos}
use lib.ListN.{replicate}
use Rattle.arrays.proofs.More.{nothing-kept, same-arrays}
use Rattle.lending.proofs.Working.new.Goals as goal

pub returns-clause-nothing_kept : goal.returns-clause-nothing_kept
returns-clause-nothing_kept c =
    same-arrays ((c.fill.ensures.after (λ y e. e)) ∙ ap (λ (n : ℕ). replicate n (pos 0)) c.requires) refl refl refl refl ∙ sym nothing-kept
