-- What a midpoint is at most: twenty-five years, in ten-thousandths. Past the buckets there is none.
use Prim.Native.Nat.{ℕ, ◌≤◌}
use mathlib.Core.Path.{refl}
use Rattle.laws.specs.Tests.{all}
use Rattle.laws.proofs.Lists.{table-most}
use Rattle.paper.specs.Ladder.{midpoints, midpoint}

pub midpoint-most : (k : ℕ) → midpoint k ≤ 250000
unfolding midpoints all
midpoint-most = table-most midpoints 250000 refl
