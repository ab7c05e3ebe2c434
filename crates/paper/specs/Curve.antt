-- Curves and shocks (SRP31.91; 01, "Curves and shocks"). Rates are millionths, shocks basis points.
use Rattle.std.specs.Prelude.{ℕ, ◌*◌, ◌/◌, List, [], ◌∷◌, ℤ, pos, neg_ℤ, ◌+ℤ◌, ◌-ℤ◌, ◌*ℤ◌, get_or}
use Rattle.laws.specs.Nearest.{nearest_ℤ}
use Rattle.paper.specs.declared.Shocks.{Shocks}
use Rattle.paper.specs.Scales.{year_scale, exponent_scale, billion}
use Rattle.paper.specs.Ladder.{midpoint}
use Rattle.paper.specs.Series.{billion_over_e}

pub record Curve : Type 0 where
  pub rates : List ℤ
  pub shocks : Shocks

-- a quarter of the midpoint in years, as an exponent
abbrev pub quarter : ℕ → ℕ
quarter k = midpoint k * (exponent_scale / (4 * year_scale))

-- s: a billion over E(midpoint in years / 4)
unfoldable pub short_share : ℕ → ℕ
short_share k = billion_over_e (quarter k)

-- the changes of scenarios 1 to 6, after none for the base; p, h, g are the parallel, short and long shocks
unfoldable pub rate_changes : Shocks → ℕ → List ℤ
rate_changes shocks short_part =
    let p = pos shocks.parallel in
    let h = pos shocks.short in
    let g = pos shocks.long in
    let s = pos short_part in
    let rest = pos billion -ℤ s in
    pos 0
    ∷ (pos 100 *ℤ p)
    ∷ (neg_ℤ (pos 100) *ℤ p)
    ∷ nearest_ℤ (neg_ℤ (pos 65) *ℤ h *ℤ s +ℤ pos 90 *ℤ g *ℤ rest) billion
    ∷ nearest_ℤ (pos 80 *ℤ h *ℤ s -ℤ pos 60 *ℤ g *ℤ rest) billion
    ∷ nearest_ℤ (pos 100 *ℤ h *ℤ s) billion
    ∷ nearest_ℤ (neg_ℤ (pos 100) *ℤ h *ℤ s) billion
    ∷ []

-- the rate of scenario i in bucket k + 1: the base rate and the scenario's change
unfoldable pub shocked_rate : Curve → ℕ → ℕ → ℤ
shocked_rate curve i k = get_or curve.rates k (pos 0) +ℤ get_or (rate_changes curve.shocks (short_share k)) i (pos 0)
