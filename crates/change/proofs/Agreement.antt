-- Totals that agree, on a row or on a currency, have the same value, change and tolerance there.
use Prim.Native.Nat.{ℕ, ◌≤◌, ◌<◌}
use mathlib.Core.Path.{◌≡◌, ap, ap₂}
use native.Mathlib.Omega.{arith}
use lib.IntN.{ℤ, pos, nat_abs, ◌*ℤ◌}
use Rattle.laws.proofs.Sums.{sum-ext, sum_ℤ-ext}
use Rattle.paper.specs.Ladder.{buckets}
use Rattle.paper.specs.Flow.{scenarios, shocked}
use Rattle.paper.specs.Factor.{factor}
use Rattle.paper.specs.Ledger.{Totals}
use Rattle.paper.specs.Change.{exponent, value, change, net_size, tolerance}
use Rattle.change.specs.Bounds.{BoundedRow, Bounded}

-- a row of each
pub record SameRow (t : Totals) (c i : ℕ) (u : Totals) (d j : ℕ) : Type 0 where
  pub cells : (k : ℕ) → k < buckets → t.cell c i k ≡ u.cell d j k
  pub rates : (k : ℕ) → k < buckets → t.rate c i k ≡ u.rate d j k

module _ {t : Totals} {c i : ℕ} {u : Totals} {d j : ℕ} (s : SameRow t c i u d j) where
  pub value_same : value t c i ≡ value u d j
  unfolding value
  value_same = sum_ℤ-ext _ _ buckets (λ k l. ap₂ (λ (f r : ℤ). f *ℤ pos (factor (exponent r k))) (s.cells k l) (s.rates k l))

  pub net-same : net_size t c i ≡ net_size u d j
  unfolding net_size
  net-same = sum-ext _ _ buckets (λ k l. ap nat_abs (s.cells k l))

  pub row-bounded : BoundedRow t c i → BoundedRow u d j
  row-bounded b = record { net = omega (arith, net-same, b.net); rates = λ k l. rw (s.rates k l) at (b.rates k l) }

-- a currency of each
pub record SameCurrency (t : Totals) (c : ℕ) (u : Totals) (d : ℕ) : Type 0 where
  pub rows : (i : ℕ) → i < scenarios → SameRow t c i u d i
  pub add_ons : (i : ℕ) → 1 ≤ i → i ≤ shocked → t.add_on c i ≡ u.add_on d i

module _ {t : Totals} {c : ℕ} {u : Totals} {d : ℕ} (s : SameCurrency t c u d) where
  pub currency-bounded : Bounded t c → Bounded u d
  currency-bounded b = record {
    rows = λ i l. row-bounded (s.rows i l) (b.rows i l);
    add_ons = λ i p l. rw (s.add_ons i p l) at (b.add_ons i p l);
  }

  module _ (i : ℕ) (p : 1 ≤ i) (l : i ≤ shocked) where
    pub change-same : change t c i ≡ change u d i
    unfolding change
    change-same = rw (value_same (s.rows 0 (omega arith)), value_same (s.rows i (omega arith)), s.add_ons i p l)

    pub tolerance-same : tolerance t c i ≡ tolerance u d i
    unfolding tolerance
    tolerance-same = rw (net-same (s.rows 0 (omega arith)), net-same (s.rows i (omega arith)))
