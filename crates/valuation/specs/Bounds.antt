-- What the arrays keep to, so that 64 bits hold every number on the way to the report.
use Rattle.std.specs.Prelude.{ℕ, ◌≤◌, ◌<◌, Bool, true, false, ◌≡◌, pos}
use Rattle.paper.specs.Ladder.{buckets}
use Rattle.paper.specs.Flow.{scenarios, shocked}
use Rattle.paper.specs.Records.{currencies}
use Rattle.paper.specs.Ledger.{Totals}
use Rattle.change.specs.Bounds.{Bounded}

-- a currency in which there is nothing
pub record Nothing (t : Totals) (c : ℕ) : Type 0 where
  pub flows : (i k : ℕ) → i < scenarios → k < buckets → t.cell c i k ≡ pos 0
  pub add_ons : (i : ℕ) → 1 ≤ i → i ≤ shocked → t.add_on c i ≡ pos 0

-- each currency with a curve is bounded, and there is nothing in one without
pub record Bounds (t : Totals) (curved : ℕ → Bool) : Type 0 where
  pub bounded : (c : ℕ) → 1 ≤ c → c ≤ currencies → curved c ≡ true → Bounded t c
  pub nothing : (c : ℕ) → 1 ≤ c → c ≤ currencies → curved c ≡ false → Nothing t c
