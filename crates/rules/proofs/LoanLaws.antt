-- Rule 11 of a loan: what the loop over its buckets knows.
use Prim.Native.Nat.{ℕ, suc, ◌+◌, ◌*◌, ◌-◌, ◌≤◌, ◌<◌}
use mathlib.Core.Bool.{Bool, true, false, ◌&&◌}
use mathlib.Core.List.{List}
use mathlib.Core.Path.{◌≡◌, ap, ◌∙◌}
use native.Mathlib.Numerals.{add-one}
use native.Mathlib.Omega.{arith}
use borrow.Author.Count.{below_more}
use Rattle.laws.specs.Tests.{◌is◌, ◌below◌, first}
use Rattle.laws.specs.Sums.{sum_of}
use Rattle.laws.proofs.Tests.{first-is, none_first}
use Rattle.laws.proofs.Lists.{tabulate-at}
use Rattle.laws.proofs.Totals.{sum_drop}
use Rattle.paper.specs.Ladder.{buckets}
use Rattle.paper.specs.Behaviour.{scheduled_at}
use Rattle.paper.specs.TurnedDown.{interest_alone}
use Rattle.paper.specs.Fields.{four}
use Rattle.fields.specs.Answers.{amounts_from}

module _ (body : List ℕ) where
  abbrev alone : ℕ → Bool
  alone = interest_alone (amounts_from body 3) (amounts_from body 79)

  -- before bucket k + 1
  pub record Passed (k scheduled : ℕ) : Type 0 where
    pub none : (j : ℕ) → j < k → alone j ≡ false
    pub left : scheduled ≡ scheduled_at (amounts_from body 3) k

  pub passed_none : (principal : ℕ) → principal ≡ sum_of (amounts_from body 3) → Passed 0 principal
  unfolding scheduled_at
  passed_none principal e = record { none = λ j l. absurd (omega arith); left = e }

  -- what is scheduled from a bucket on is its principal and what is scheduled after
  scheduled-split : (k : ℕ) → k < buckets
      → scheduled_at (amounts_from body 3) k ≡ four body (3 + 4 * k) + scheduled_at (amounts_from body 3) (suc k)
  unfolding scheduled_at
  scheduled-split k l =
      sum_drop (amounts_from body 3) k
      ∙ ap (λ (x : ℕ). x + scheduled_at (amounts_from body 3) (suc k)) (tabulate-at (λ j. four body (3 + 4 * j)) buckets k 0 l)

  pub passed-covers : (k scheduled : ℕ) → k < buckets → Passed k scheduled → four body (3 + 4 * k) ≤ scheduled
  passed-covers k scheduled l h = omega (arith, h.left, scheduled-split k l)

  -- the test of bucket k + 1
  tested : (k scheduled : ℕ) → k < buckets → Passed k scheduled → alone k ≡ (0 below four body (79 + 4 * k) && scheduled is 0)
  unfolding interest_alone
  tested k scheduled l h = rw (tabulate-at (λ j. four body (79 + 4 * j)) buckets k 0 l, h.left)

  pub passed-more : (k scheduled : ℕ) → k < buckets → Passed k scheduled → (0 below four body (79 + 4 * k) && scheduled is 0) ≡ false
      → Passed (k + 1) (scheduled - four body (3 + 4 * k))
  passed-more k scheduled l h e = record {
    none = below_more _ _ h.none (tested k scheduled l h ∙ e);
    left = rw (add-one k) (omega (arith, h.left, scheduled-split k l));
  }

  pub passed-stops : (k scheduled : ℕ) → k < buckets → Passed k scheduled → (0 below four body (79 + 4 * k) && scheduled is 0) ≡ true
      → first alone 0 buckets ≡ k
  passed-stops k scheduled l h e =
      first-is alone 0 buckets k (omega arith) (omega arith) (tested k scheduled l h ∙ e) (λ j m n. h.none j n)

  pub passed-ends : (scheduled : ℕ) → Passed buckets scheduled → first alone 0 buckets ≡ buckets
  passed-ends scheduled h = none_first alone 0 buckets (λ j m n. h.none j n)
