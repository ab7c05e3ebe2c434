-- What a currency keeps to, so that 64 bits hold every number on the way to its changes.
use Rattle.std.specs.Prelude.{ℕ, ◌≤◌, ◌<◌, nat_abs}
use Rattle.paper.specs.Scales.{billion}
use Rattle.paper.specs.Ladder.{buckets}
use Rattle.paper.specs.Flow.{scenarios, shocked}
use Rattle.paper.specs.Ledger.{Totals}
use Rattle.paper.specs.Change.{net_size}
use Rattle.paper.specs.Sound.{Ranged}

-- a row: the net flows of a currency and a scenario, and their rates
pub record BoundedRow (t : Totals) (c i : ℕ) : Type 0 where
  pub net : net_size t c i ≤ billion
  pub rates : (k : ℕ) → k < buckets → Ranged (t.rate c i k)

-- a currency: its rows, and its add-ons
pub record Bounded (t : Totals) (c : ℕ) : Type 0 where
  pub rows : (i : ℕ) → i < scenarios → BoundedRow t c i
  pub add_ons : (i : ℕ) → 1 ≤ i → i ≤ shocked → nat_abs (t.add_on c i) ≤ billion
