-- What the flows of a row times their factors, a change and a tolerance come to at most, and that 64 bits hold them.
use Prim.Native.Nat.{ℕ, ◌+◌, ◌*◌, ◌-◌, ◌/◌, ◌≤◌, ◌<◌}
use mathlib.Core.Bool.{Bool, true, false}
use mathlib.Core.Path.{◌≡◌}
use native.Mathlib.Nat.{mul-le-mul_left}
use native.Mathlib.Omega.{arith}
use lib.IntN.{ℤ, pos, nat_abs, ◌-ℤ◌, ◌*ℤ◌}
use mir.Syntax.{w64}
use mir.Val.{SFits}
use Rattle.laws.specs.Sums.{sum, sum_ℤ}
use Rattle.laws.specs.Nearest.{nearest_ℤ, rounded_up}
use Rattle.std.specs.Prelude.{if◌then◌else◌}
use Rattle.laws.specs.Tests.{◌is◌}
use Rattle.laws.proofs.Integers.{abs-add, abs-sub, abs-mul}
use Rattle.laws.proofs.Widths.{sfits-abs}
use Rattle.laws.proofs.Nearest.{near_le}
use Rattle.laws.proofs.Sums.{abs-sum, sum_mono, sum-upto, sum-le, sum-times}
use Rattle.paper.specs.Scales.{billion}
use Rattle.paper.specs.Ladder.{buckets}
use Rattle.paper.specs.Flow.{scenarios, shocked}
use Rattle.paper.specs.Factor.{low_start, factor}
use Rattle.paper.specs.Ledger.{Totals}
use Rattle.paper.specs.Change.{exponent, value, change, net_size, tolerance_of, tolerance}
use Rattle.paper.proofs.FactorClose.{factor-at-most}
use Rattle.change.specs.Bounds.{Bounded}
use Rattle.change.specs.Figures.{most_of_a_change}

module _ (t : Totals) (c i : ℕ) where
  abbrev pub weighed : ℕ → ℤ
  weighed k = t.cell c i k *ℤ pos (factor (exponent (t.rate c i k) k))

  abbrev pub size : ℕ → ℕ
  size k = nat_abs (t.cell c i k)

  weighed-most : (k : ℕ) → nat_abs (weighed k) ≤ low_start * size k
  weighed-most k =
      let g = factor (exponent (t.rate c i k) k) in
      omega (arith, abs-mul (t.cell c i k) (pos g), mul-le-mul_left (size k) (factor-at-most (exponent (t.rate c i k) k)))

  pub weighed-sum-most : (n : ℕ) → n ≤ buckets → nat_abs (sum_ℤ weighed n) ≤ low_start * net_size t c i
  unfolding net_size
  weighed-sum-most n h =
      let rest : n + (buckets - n) ≡ buckets = omega arith in
      let part : sum size n ≤ sum size buckets = rw rest at (sum_mono size n (buckets - n)) in
      omega (
        arith,
        abs-sum weighed n,
        sum-le (λ k. nat_abs (weighed k)) (λ k. low_start * size k) n (λ k l. weighed-most k),
        sum-times low_start size n,
        mul-le-mul_left low_start part,
      )

  module _ (net : net_size t c i ≤ billion) where
    pub weighed-fits : (k : ℕ) → k < buckets → SFits w64 (weighed k)
    unfolding net_size
    weighed-fits k l =
        let one : size k ≤ billion = omega (arith, sum-upto size k buckets l) in
        sfits-abs (weighed k) (omega (arith, weighed-most k, mul-le-mul_left low_start one))

    pub weighed-sum-fits : (n : ℕ) → n ≤ buckets → SFits w64 (sum_ℤ weighed n)
    weighed-sum-fits n h = sfits-abs (sum_ℤ weighed n) (omega (arith, weighed-sum-most n h, mul-le-mul_left low_start net))

-- ---- two values less one another, and the change

module _ (t : Totals) (c : ℕ) (b : Bounded t c) where
  value-most : (i : ℕ) → i < scenarios → nat_abs (value t c i) ≤ low_start * billion
  unfolding value
  value-most i l = omega (arith, weighed-sum-most t c i buckets (omega arith), mul-le-mul_left low_start (b.rows i l).net)

  module _ (i : ℕ) (p : 1 ≤ i) (l : i ≤ shocked) where
    pub difference-most : nat_abs (value t c 0 -ℤ value t c i) ≤ 7000000000 * billion
    difference-most = omega (arith, value-most 0 (omega arith), value-most i (omega arith), abs-sub (value t c 0) (value t c i))

    pub difference-fits : SFits w64 (value t c 0 -ℤ value t c i)
    difference-fits = sfits-abs (value t c 0 -ℤ value t c i) (omega (arith, difference-most))

    pub change-most : nat_abs (change t c i) ≤ most_of_a_change
    unfolding change
    change-most =
        let d = value t c 0 -ℤ value t c i in
        omega (arith, abs-add (nearest_ℤ d billion) (t.add_on c i), near_le {n = 7000000000} {b = billion} d (omega arith) difference-most, b.add_ons i p l)

    pub change-fits : SFits w64 (change t c i)
    change-fits = sfits-abs (change t c i) (omega (arith, change-most))

-- ---- the tolerance

pub tolerance-of-most : (A : ℕ) → A ≤ 2 * billion → tolerance_of A ≤ 53
unfolding tolerance_of rounded_up
tolerance-of-most A h = by (A is 0)
  where
    by : (b : Bool) → (if b then 0 else 1 + (26 * A + (billion - 1)) / billion) ≤ 53
    by true = omega arith
    by false = omega arith

pub tolerance-most : (t : Totals) (c i : ℕ) → net_size t c 0 ≤ billion → net_size t c i ≤ billion → tolerance t c i ≤ 53
unfolding tolerance
tolerance-most t c i h k = tolerance-of-most (net_size t c 0 + net_size t c i) (omega arith)
