-- Every change is within its tolerance of the exact change.
use Prim.Native.Nat.{ℕ, zero, suc, ◌+◌, ◌*◌, ◌≤◌, ◌<◌}
use mathlib.Core.Logic.{⊎_elim}
use mathlib.Core.Path.{◌≡◌, refl}
use native.Mathlib.Nat.{add-zero, add-mul, mul-le-mul, eq-zero-or-pos}
use native.Mathlib.Omega.{arith}
use borrow.Author.Tests.{ne_eqb}
use lib.Dec.{lit<}
use lib.IntN.{ℤ, pos, neg_ℤ, nat_abs, ◌-ℤ◌, ◌*ℤ◌, zero-*ℤ}
use Rattle.laws.specs.Integers.{up, down}
use Rattle.laws.specs.Sums.{sum, sum_ℤ}
use Rattle.laws.specs.Nearest.{nearest_ℤ, rounded_up}
use Rattle.laws.specs.Ratio.{Ratio, ◌-ℚ◌, ◌/ℚ◌, Within}
use Rattle.laws.proofs.Integers.{zero-abs, mul-up, mul-down}
use Rattle.laws.proofs.Order.{le_of}
use Rattle.laws.proofs.Ratio.{within-add, within-sub, within-whole, within-over, within-nil, within-equal, sum-within}
use Rattle.paper.specs.Scales.{billion}
use Rattle.paper.specs.Ladder.{buckets, midpoint}
use Rattle.paper.specs.Factor.{factor, InRange}
use Rattle.paper.specs.Flow.{scenarios}
use Rattle.paper.specs.Ledger.{Totals}
use Rattle.paper.specs.Change.{exponent, value, change, net_size, tolerance_of, tolerance}
use Rattle.paper.specs.Exact.{exact_factor, exact_value, exact_change}
use Rattle.paper.proofs.Midpoints.{midpoint-most}
use Rattle.paper.proofs.FactorClose.{factor-close}

-- every exponent lies where a factor is close: so it is in an accepted book
pub record Rated (t : Totals) : Type 0 where
  pub ranged : (c i k : ℕ) → i < scenarios → k < buckets → InRange (exponent (t.rate c i k) k)

-- so it is at a rate of -50,000 to 300,000
pub exponent-ranged : (rate : ℤ) (k : ℕ) → k < buckets → down rate ≤ 50000 → up rate ≤ 300000 → InRange (exponent rate k)
unfolding exponent
exponent-ranged rate k l low high =
    let X = rate *ℤ pos (midpoint k) in
    let parts = mul-up rate (pos (midpoint k)) in
    let rest = mul-down rate (pos (midpoint k)) in
    record {
      low = le_of (neg_ℤ (pos 12500000000)) X (omega (arith, mul-le-mul low (midpoint-most k)));
      high = le_of X (pos 99999999999) (omega (arith, mul-le-mul high (midpoint-most k)));
    }

-- ---- a sum of flows times factors

value-close : (t : Totals) → Rated t → (c i : ℕ) → i < scenarios → Within (net_size t c i * 26) (value t c i) (exact_value t c i)
unfolding value net_size exact_value
value-close t rated c i l =
    sum-within 26 (t.cell c i) (λ k. pos (factor (exponent (t.rate c i k) k))) (λ k. exact_factor (exponent (t.rate c i k) k)) buckets
    (λ k m. factor-close (exponent (t.rate c i k) k) (rated.ranged c i k l m))

-- without net flows it is nil
nil-sum : (f g : ℕ → ℤ) (n : ℕ) → sum (λ k. nat_abs (f k)) n ≡ 0 → sum_ℤ (λ k. f k *ℤ g k) n ≡ pos 0
unfolding sum sum_ℤ
nil-sum f g zero e = refl
nil-sum f g (suc n) e = rw (nil-sum f g n (omega arith), zero-abs (f n) (omega arith), zero-*ℤ (g n))

pub nil-value : (t : Totals) (c i : ℕ) → net_size t c i ≡ 0 → value t c i ≡ pos 0
unfolding value net_size
nil-value t c i e = nil-sum (t.cell c i) (λ k. pos (factor (exponent (t.rate c i k) k))) buckets e

-- ---- the rounding: the 1 of the tolerance is for it

enough : (A : ℕ) → 0 < A → 2 * (A * 26) + billion ≤ 2 * (tolerance_of A * billion)
unfolding tolerance_of rounded_up
enough A h = rw (ne_eqb A 0 (λ e. omega arith)) (omega arith)

rounded : (A : ℕ) (z : ℤ) (q : Ratio) → (A ≡ 0 → z ≡ pos 0) → Within (A * 26) z q → Within (tolerance_of A) (nearest_ℤ z billion) (q /ℚ billion)
unfolding tolerance_of
rounded A z q nil w = ⊎_elim none some (eq-zero-or-pos A)
  where
    some : 0 < A → Within (tolerance_of A) (nearest_ℤ z billion) (q /ℚ billion)
    some p = within-over billion (lit< tt) (enough A p) w

    none : A ≡ 0 → Within (tolerance_of A) (nearest_ℤ z billion) (q /ℚ billion)
    none e = rw (e, nil e) (within-nil billion (lit< tt) (rw (e, nil e) at w))

-- ---- the theorems: t stands for the totals of an accepted book, c for a currency, i for a scenario

module _ (t : Totals) (rated : Rated t) (c i : ℕ) (scenario : i < scenarios) where
  pub change-close : Within (tolerance t c i) (change t c i) (exact_change t c i)
  unfolding change exact_change tolerance
  change-close =
      rw add-zero at
      (within-add
      (rounded (net_size t c 0 + net_size t c i) (value t c 0 -ℤ value t c i) (exact_value t c 0 -ℚ exact_value t c i)
      (λ e. rw (nil-value t c 0 (omega arith), nil-value t c i (omega arith)))
      (rw add-mul (within-sub (value-close t rated c 0 (lit< tt)) (value-close t rated c i scenario))))
      (within-whole (t.add_on c i)))

  -- a tolerance of nil: the two are equal
  pub change-exact : tolerance t c i ≡ 0 → (0 < (exact_change t c i).den) × (change t c i *ℤ pos (exact_change t c i).den ≡ (exact_change t c i).num)
  change-exact e = (change-close.proper, within-equal (rw e at change-close))
