-- The changes of the last four scenarios in the form that the code has: so much by s, and so much by the rest.
use Prim.Native.Nat.{ℕ, ◌≤◌, ◌<◌}
use mathlib.Core.Logic.{⊎_elim}
use mathlib.Core.Path.{◌≡◌, refl, ap}
use native.Mathlib.Omega.{arith}
use lib.IntN.{ℤ, pos, neg_ℤ, ◌-ℤ◌, ◌*ℤ◌}
use lib.ListN.{get_or, get_or-eq_default}
use Rattle.laws.specs.Nearest.{nearest_ℤ}
use Rattle.laws.proofs.Tests.{lt-or-ge}
use Rattle.laws.proofs.Ring.{add-neg-mul, add-zero-mul}
use Rattle.paper.specs.Scales.{billion}
use Rattle.paper.specs.declared.Shocks.{Shocks}
use Rattle.paper.specs.Curve.{rate_changes}
use Rattle.curve.specs.Shocked.{twisted}

module _ (shocks : Shocks) (s : ℕ) where
  pub steepener : twisted shocks s (neg_ℤ (pos 65)) (pos 90) ≡ get_or (rate_changes shocks s) 3 (pos 0)
  unfolding twisted rate_changes
  steepener = refl

  pub flattener : twisted shocks s (pos 80) (neg_ℤ (pos 60)) ≡ get_or (rate_changes shocks s) 4 (pos 0)
  unfolding twisted rate_changes
  flattener =
      ap (λ (z : ℤ). nearest_ℤ z billion)
      (add-neg-mul (pos 80 *ℤ pos shocks.short *ℤ pos s) (pos 60) (pos shocks.long) (pos billion -ℤ pos s))

  pub short-alone : (w : ℤ) → twisted shocks s w (pos 0) ≡ nearest_ℤ (w *ℤ pos shocks.short *ℤ pos s) billion
  unfolding twisted
  short-alone w =
      ap (λ (z : ℤ). nearest_ℤ z billion) (add-zero-mul (w *ℤ pos shocks.short *ℤ pos s) (pos shocks.long) (pos billion -ℤ pos s))

  -- for the base, and past the six, there is no change
  pub no_change : (i : ℕ) → (0 < i → 6 < i) → get_or (rate_changes shocks s) i (pos 0) ≡ pos 0
  unfolding rate_changes
  no_change i h =
      ⊎_elim (λ (l : i < 1). let e : i ≡ 0 = omega arith in rw e)
      (λ (l : 1 ≤ i). get_or-eq_default (rate_changes shocks s) (pos 0) {n = i} (h l)) (lt-or-ge i 1)
