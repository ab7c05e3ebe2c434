-- The arrays of the records kept, where none of them lacks a curve, keep the bounds, and their report is the records' own.
use Prim.Native.Nat.{ℕ, suc, ◌≤◌}
use mathlib.Core.Bool.{Bool, true, false, not, ◌&&◌}
use mathlib.Core.List.{List}
use mathlib.Core.Path.{◌≡◌, refl, sym, ◌∙◌}
use native.Mathlib.Omega.{arith}
use Rattle.laws.specs.Tests.{first}
use Rattle.laws.specs.Integers.{up}
use Rattle.laws.proofs.Tests.{first-none}
use Rattle.laws.proofs.Integers.{abs_is}
use Rattle.laws.proofs.Sums.{sum-most, greatest-least}
use Rattle.paper.specs.Records.{Record, currencies}
use Rattle.paper.specs.Ledger.{Totals, totals, used, curved}
use Rattle.paper.specs.TurnedDown.{lacks_curve}
use Rattle.paper.specs.Flow.{shocked}
use Rattle.paper.specs.Change.{change, net_size}
use Rattle.paper.specs.Verdict.{scenario_sum, measure, report_of}
use Rattle.paper.proofs.Limits.{net-limited, add_on-limited}
use Rattle.paper.proofs.EmptyCurrency.{unused-cell, unused-add_on}
use Rattle.paper.proofs.Walk.{Good}
use Rattle.arrays.specs.Masks.{MaskOf, curved_by}
use Rattle.arrays.specs.Arrays.{arrays_of}
use Rattle.arrays.specs.Rooms.{totals_by}
use Rattle.arrays.proofs.More.{cell-is, add_on-is}
use Rattle.change.specs.Bounds.{Bounded}
use Rattle.change.specs.Figures.{most_of_a_change}
use Rattle.change.proofs.Bounds.{change-most}
use Rattle.verdict.specs.Figures.{most_of_a_sum}
use Rattle.change.proofs.Agreement.{SameCurrency, currency-bounded}
use Rattle.valuation.specs.Bounds.{Nothing, Bounds}
use Rattle.valuation.proofs.SameReport.{currency-nothing, totals-report}

module _ (kept : List Record) where
  abbrev pub array_totals : Totals
  array_totals = totals_by (arrays_of kept).ledger (arrays_of kept).add_ons (arrays_of kept).rates

  pub same_kept : (c : ℕ) → 1 ≤ c → c ≤ currencies → SameCurrency (totals kept) c array_totals c
  unfolding arrays_of
  same_kept c l h = record {
    rows = λ i m. record {
      cells = λ k n. sym (cell-is (totals kept).cell c i k l h m n);
      rates = λ k n. sym (cell-is (totals kept).rate c i k l h m n);
    };
    add_ons = λ i p m. sym (add_on-is kept c i l h p m);
  }

  pub kept-report : (T : ℕ) → report_of currencies array_totals T ≡ report_of currencies (totals kept) T
  kept-report T = sym (totals-report (totals kept) array_totals T same_kept)

  module _ (good : Good kept) where
    kept-bounded : (c : ℕ) → Bounded (totals kept) c
    unfolding net_size
    kept-bounded c = record {
      rows = λ i l. record { net = net-limited good.limited c i l; rates = λ k m. good.ranged c i k l m };
      add_ons = λ i p l. add_on-limited good.limited c i p (omega arith);
    }

    -- a measure is within what 64 bits hold a hundred times over
    pub kept-measure : measure currencies (change (totals kept)) ≤ most_of_a_sum
    unfolding measure scenario_sum
    kept-measure =
        greatest-least _ shocked most_of_a_sum
        (λ i p l. omega (arith, sum-most (λ c. up (change (totals kept) (suc c) i)) currencies most_of_a_change (λ c _. loss (suc c) i p l)))
      where
        loss : (c i : ℕ) → 1 ≤ i → i ≤ shocked → up (change (totals kept) c i) ≤ most_of_a_change
        loss c i p l = omega (arith, abs_is (change (totals kept) c i), change-most (totals kept) c (kept-bounded c) i p l)

    pub kept-bounds : (mask : ℕ) → MaskOf mask (curved kept) → first (lacks_curve kept) 1 currencies ≡ suc currencies → Bounds array_totals (curved_by mask)
    unfolding lacks_curve
    kept-bounds mask m none = record {
      bounded = λ c l h _. currency-bounded (same_kept c l h) (kept-bounded c);
      nothing = λ c l h e. currency-nothing (same_kept c l h) (nil c (idle (used kept c) (curved kept c) (first-none (lacks_curve kept) 1 currencies none c l (omega arith)) (sym (m.has-it c l h) ∙ e)));
    }
      where
        idle : (u v : Bool) → u && not v ≡ false → v ≡ false → u ≡ false
        idle true true e f = f
        idle true false e f = e
        idle false v e f = refl

        nil : (c : ℕ) → used kept c ≡ false → Nothing (totals kept) c
        nil c e = record { flows = λ i k _ _. unused-cell kept c e i k; add_ons = λ i _ _. unused-add_on kept c e i }
