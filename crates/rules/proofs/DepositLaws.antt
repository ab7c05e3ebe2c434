-- Rules 9 and 10 of a deposit: the caps, and what the loop over its core knows.
use Prim.Native.Nat.{ℕ, zero, suc, ◌+◌, ◌*◌, ◌≤◌, ◌<◌}
use mathlib.Core.List.{List, [], ◌∷◌}
use mathlib.Core.Path.{◌≡◌, refl, sym, ap, ap₂, ◌∙◌}
use native.Mathlib.Nat.{mul-le-mul, le_of_lt}
use native.Mathlib.Omega.{arith}
use lib.ListN.{get_or}
use Rattle.laws.specs.Sums.{sum}
use Rattle.laws.proofs.Sums.{sum_more, sum-ext}
use Rattle.laws.proofs.Lists.{tabulate-at}
use Rattle.paper.specs.Ladder.{buckets, midpoint}
use Rattle.paper.specs.Behaviour.{weighed_core}
use Rattle.paper.specs.Fields.{four}
use Rattle.paper.proofs.Midpoints.{midpoint-most}
use Rattle.fields.specs.Answers.{amounts_from}

-- another category has no cap
pub uncapped : (first second third category : ℕ) → (category ≡ 1 → ⊥) → (category ≡ 2 → ⊥) → (category ≡ 3 → ⊥)
    → get_or (0 ∷ first ∷ second ∷ third ∷ []) category 0 ≡ 0
uncapped a b d zero f g h = refl
uncapped a b d (suc zero) f g h = absurd (f refl)
uncapped a b d (suc (suc zero)) f g h = absurd (g refl)
uncapped a b d (suc (suc (suc zero))) f g h = absurd (h refl)
uncapped a b d (suc (suc (suc (suc n)))) f g h = refl

module _ (body : List ℕ) where
  abbrev weight : ℕ → ℕ
  weight k = four body (6 + 4 * k) * midpoint k

  -- before bucket k + 1
  pub record Weighed (k weighed : ℕ) : Type 0 where
    pub total : weighed ≡ sum weight k
    pub small : weighed ≤ 4294967296 * 250000 * k

  pub weighed-none : Weighed 0 0
  unfolding sum
  weighed-none = record { total = refl; small = omega arith }

  pub weighed-more : (k weighed amount middle : ℕ) → Weighed k weighed → amount ≡ four body (6 + 4 * k) → amount < 4294967296
      → middle ≡ midpoint k → Weighed (k + 1) (weighed + amount * middle)
  weighed-more k weighed amount middle h e f m = record {
    total = ap₂ (λ (s w : ℕ). s + w) h.total (ap₂ (λ (x y : ℕ). x * y) e m) ∙ sym (sum_more weight k);
    small =
        let most : middle ≤ 250000 = rw m (midpoint-most k) in
        omega (arith, h.small, mul-le-mul (le_of_lt f) most);
  }

  pub weighed-ends : (weighed : ℕ) → Weighed buckets weighed → weighed ≡ weighed_core (amounts_from body 6)
  unfolding weighed_core
  weighed-ends weighed h =
      h.total ∙ sum-ext weight _ buckets (λ k l. ap (λ (x : ℕ). x * midpoint k) (sym (tabulate-at (λ j. four body (6 + 4 * j)) buckets k 0 l)))
