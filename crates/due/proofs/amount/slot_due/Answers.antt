use Prim.Native.Nat.{ℕ, ◌≤◌}
use mathlib.Core.Path.{refl, sym, ap₂, ◌∙◌}
use native.Mathlib.Omega.{arith}
use lib.IntN.{ℤ, pos}
use borrow.Author.Rules.{rules}
use Rattle.arrays.specs.Slots.{plus_ℤ}
use Rattle.posting.specs.Parts.{column, trillion}
use Rattle.posting.proofs.Loops.{replicate-all}
use Rattle.paper.proofs.Magnitudes.{abs-sided}
use Rattle.posting.proofs.Limit.{entered-done, entered-not, same_size}
use Rattle.posting.proofs.Admission.{due-column}
use Rattle.due.proofs.amount.slot_due.Goals as goal

pub admit-requires : goal.admit-requires
admit-requires c =
    record { more_len = sym c.requires.flow_parts.sizes-long; at_most = c.requires.flow_parts.sizes-small; at_most_2 = replicate-all 0 (λ n. n ≤ trillion) 7 c.args.amount.0 (search rules) (search rules) }

pub post-requires : goal.post-requires
post-requires c =
    record { section_len = (c.requires.flow_parts.cells-long, search rules, search rules); fact = (λ j. omega (arith, c.requires.flow_parts.cells-small j)); amount_bound = rw (c.sided_amount.ensures, abs-sided c.args.side (pos c.args.amount.0)) (search rules) }

pub returns-in_err-admit : goal.returns-in_err-admit
returns-in_err-admit c =
    entered-not _ c.args.side _ c.requires.flow_parts.sizes-long (same_size c.args.amount.0) c.admit.ensures c.in_err-admit.was (search rules) refl

pub returns : goal.returns
returns c =
    let posted =
    c.post.ensures
    ∙ ap₂ (λ (b : ℕ) (z : ℤ). plus_ℤ c.args.section.now (column b z)) c.bucket_of.ensures.value c.sided_amount.ensures in
    entered-done _ c.args.side _ c.requires.flow_parts.sizes-long (same_size c.args.amount.0) c.admit.ensures c.in_ok-admit.was refl
    (posted ∙ due-column c.args.side _ c.args.amount.0 _)
