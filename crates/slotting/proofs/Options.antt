-- Kind 7: six values, their magnitudes, and what they add.
use Prim.Native.Nat.{ℕ, suc, ◌-◌, ◌≤◌, ◌<◌}
use mathlib.Core.List.{List, [], ◌∷◌, map}
use mathlib.Core.Logic.{⊎_elim}
use mathlib.Core.Path.{◌≡◌, refl, sym, ap, ap₂, ◌∙◌}
use native.Mathlib.Omega.{arith}
use lib.IntN.{ℤ, pos, nat_abs, ◌+ℤ◌}
use lib.ListN.{get_or, get_or-eq_default}
use mir.Facts.{to_z-of_z}
use mir.Syntax.{w64}
use mir.Val.{to_z, of_z, SFits}
use Rattle.laws.specs.Lists.{tabulate}
use Rattle.laws.proofs.Widths.{sfits-abs}
use Rattle.laws.proofs.Joins.{joined-ext}
use Rattle.laws.proofs.Lists.{tabulate-at}
use Rattle.laws.proofs.Tests.{lt-or-ge}
use Rattle.paper.specs.Scales.{billion}
use Rattle.paper.specs.Records.{option}
use Rattle.paper.specs.Flow.{sided, adds}
use Rattle.paper.specs.Sound.{Listed, Small}
use Rattle.arrays.specs.Slots.{plus_ℤ, with_add_ons}
use Rattle.posting.specs.Parts.{AtMostℤ, trillion}
use Rattle.posting.proofs.Sides.{sum_fits}
use Rattle.paper.proofs.Magnitudes.{abs-sided}
use Rattle.arrays.specs.Slots.{option_magnitude}

pub values-small : (values : List ℤ) → Listed Small 6 values → AtMostℤ billion values
values-small values h j =
    ⊎_elim (λ (l : j < 6). (h.at (pos 0) j l).small)
    (λ (l : 6 ≤ j). rw (get_or-eq_default values (pos 0) {n = j} (omega (arith, h.long))) (omega arith))
    (lt-or-ge j 6)

-- values that were small come back from their bits as they were
pub values-back : (values : List ℤ) → AtMostℤ billion values → map (λ z. to_z w64 (of_z w64 z)) values ≡ values
values-back [] h = refl
values-back (z ∷ values) h = ap₂ ◌∷◌ (to_z-of_z {w = w64} (sfits-abs z (omega (arith, h 0)))) (values-back values (λ j. h (suc j)))

-- ---- a value added to an add-on, both read back from their bits

module _ (z x value : ℤ) (side : ℕ) (z-small : nat_abs z ≤ billion) (x-small : nat_abs x ≤ billion) (e : value ≡ sided side (to_z w64 (of_z w64 x))) where
  back : (y : ℤ) → nat_abs y ≤ trillion → to_z w64 (of_z w64 y) ≡ y
  back y h = to_z-of_z {w = w64} (sfits-abs y (omega (arith, h)))

  value-is : value ≡ sided side x
  value-is = e ∙ ap (sided side) (back x (omega (arith, x-small)))

  small : nat_abs value ≤ trillion
  small = rw (value-is, abs-sided side x) (omega (arith, x-small))

  same : to_z w64 (of_z w64 z) +ℤ to_z w64 (of_z w64 value) ≡ z +ℤ value
  same = ap₂ ◌+ℤ◌ (back z (omega (arith, z-small))) (back value small)

  pub added_fits : SFits w64 (to_z w64 (of_z w64 z) +ℤ to_z w64 (of_z w64 value))
  added_fits = rw same (sum_fits z value (omega (arith, z-small)) small)

  pub added : to_z w64 (of_z w64 (to_z w64 (of_z w64 z) +ℤ to_z w64 (of_z w64 value))) ≡ z +ℤ sided side x
  added = to_z-of_z {w = w64} added_fits ∙ same ∙ ap (λ (y : ℤ). z +ℤ y) value-is

module _ (c side : ℕ) (values : List ℤ) where
  adds-is : (j : ℕ) → adds (option c side values) (suc j) ≡ sided side (get_or values j (pos 0))
  unfolding adds
  adds-is j = let same : suc j - 1 ≡ j = omega arith in rw same

  pub option-sized : (more : List ℕ) → more ≡ tabulate (λ j. nat_abs (get_or values j (pos 0))) 6 → (j : ℕ) → j < 6
      → option_magnitude (option c side values) j ≡ get_or more j 0
  option-sized more e j l =
      ap nat_abs (adds-is j) ∙ abs-sided side (get_or values j (pos 0)) ∙ sym (ap (λ (m : List ℕ). get_or m j 0) e ∙ tabulate-at (λ i. nat_abs (get_or values i (pos 0))) 6 j 0 l)

  pub option-adds : (add_ons : List ℤ) → plus_ℤ add_ons (λ j. sided side (get_or values j (pos 0))) ≡ with_add_ons (option c side values) add_ons
  unfolding with_add_ons
  option-adds add_ons = joined-ext ◌+ℤ◌ (pos 0) add_ons _ _ (λ j _. sym (adds-is j))
