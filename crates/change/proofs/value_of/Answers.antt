-- `value_of` meets its contract. The invariant: the sum of the row's weighed flows so far. That it fits follows from the bound on the row's net flows.
use Prim.Native.Nat.{ℕ, ◌+◌, ◌*◌, ◌^◌, ◌≤◌, ◌<◌}
use mathlib.Core.List.{List, []}
use mathlib.Core.Path.{◌≡◌, refl, sym, ap, ap₂, ◌∙◌}
use native.Mathlib.Omega.{arith}
use lib.IntN.{ℤ, pos, ◌+ℤ◌, ◌*ℤ◌}
use lib.ListN.{get_or}
use lib.Signed.{mag}
use mir.Syntax.{Width, w32, w64}
use mir.Val.{SFits, hbits, to_z, of_z}
use mir.Facts.{to_z-of_z, to_z_pos}
use Rattle.laws.specs.Sums.{sum_ℤ}
use Rattle.laws.proofs.Widths.{back}
use Rattle.laws.proofs.Sums.{sum_ℤ-more}
use Rattle.paper.specs.Ladder.{buckets}
use Rattle.paper.specs.Factor.{low_start, factor}
use Rattle.paper.specs.Ledger.{Totals}
use Rattle.paper.specs.Change.{value, exponent}
use Rattle.arrays.specs.Rooms.{cell_by, totals_by}
use Rattle.change.proofs.CurrencyParts.{part-cell}
use Rattle.change.proofs.Bounds.{weighed, weighed-fits, weighed-sum-fits}
use Rattle.change.proofs.value_of.Goals as goal
use Rattle.change.proofs.value_of.Goals.{After-factor, After-from}

-- an element of this turn that was read, of the cells or of the rates
module _ (i k : ℕ) where
  read_is : (w : Width) (part : List ℤ) → mag (get_or part (buckets * i + k) (pos 0)) < 2 ^ hbits w
      → to_z w (of_z w (get_or part (buckets * i + k) (pos 0))) ≡ cell_by part 1 i k
  read_is w part h = back w (get_or part (buckets * i + k) (pos 0)) h ∙ sym (part-cell part i k)

  -- read in 32 bits, and then in 64
  rate-read : (rates : List ℤ) → mag (get_or rates (buckets * i + k) (pos 0)) < 2 ^ 31
      → to_z w64 (of_z w64 (to_z w32 (of_z w32 (get_or rates (buckets * i + k) (pos 0))))) ≡ cell_by rates 1 i k
  rate-read rates narrow =
      let rate = get_or rates (buckets * i + k) (pos 0) in
      ap (λ (z : ℤ). to_z w64 (of_z w64 z)) (back w32 rate narrow) ∙ read_is w64 rates (omega (arith, narrow))

factor-fits : {f : ℕ} → f ≤ low_start → SFits w64 (pos f)
factor-fits h = record { sfits = omega (arith, h) }

-- the rate of this turn
rate-is : (c : After-from) → to_z w64 (of_z w64 (to_z w32 (of_z w32 (get_or c.args.rates.now (buckets * c.args.scenario + c.loop-k.k) (pos 0))))) ≡ cell_by c.args.rates.now 1 c.args.scenario c.loop-k.k
rate-is c = rate-read c.args.scenario c.loop-k.k c.args.rates.now (omega arith)

-- the product of this turn, and the sum with it
module _ (c : After-factor) where
  abbrev row : Totals
  row = totals_by c.args.cells.now [] c.args.rates.now

  abbrev i : ℕ
  i = c.args.scenario

  abbrev k : ℕ
  k = c.loop-k.k

  factor-is : c.factor.result ≡ factor (exponent (row.rate 1 i k) k)
  factor-is =
      c.factor.ensures.0
      ∙ ap factor (c.of-exponent.ensures.is k (c.from.ensures ∙ ap (λ (l : List ℕ). pos (get_or l k 0)) c.midpoints-midpoint-items.ensures) ∙ ap (λ (r : ℤ). exponent r k) (rate-read i k c.args.rates.now (omega arith)))

  product_is : to_z w64 (of_z w64 (get_or c.args.cells.now (buckets * i + k) (pos 0))) *ℤ to_z w64 c.factor.result ≡ weighed row 1 i k
  product_is =
      ap₂ ◌*ℤ◌ (read_is i k w64 c.args.cells.now (omega arith)) (to_z_pos w64 {n = c.factor.result} (factor-fits c.factor.ensures.1).sfits ∙ ap pos factor-is)

  product-fits : SFits w64 (weighed row 1 i k)
  product-fits = weighed-fits row 1 i c.requires.bounded_row.net k c.loop-k-test.true

  sum_is : to_z w64 c.loop-k.sum-bits +ℤ weighed row 1 i k ≡ sum_ℤ (weighed row 1 i) (k + 1)
  sum_is = ap (λ (z : ℤ). z +ℤ weighed row 1 i k) c.loop-k.invariant ∙ sym (sum_ℤ-more (weighed row 1 i) k)

  sum_fits : SFits w64 (sum_ℤ (weighed row 1 i) (k + 1))
  sum_fits = weighed-sum-fits row 1 i c.requires.bounded_row.net (k + 1) (omega arith)

pub loop-k-init : goal.loop-k-init
unfolding sum_ℤ
loop-k-init c = refl

pub of-exponent-requires-clause-ranged : goal.of-exponent-requires-clause-ranged
of-exponent-requires-clause-ranged c =
    rw (rate-is (goal.at.of-exponent-requires-clause-ranged c).After-from) (c.requires.bounded_row.rates c.loop-k.k c.loop-k-test.true)

pub overflow_mul-sum : goal.overflow_mul-sum
overflow_mul-sum c = let a = (goal.at.overflow_mul-sum c).After-factor in rw (product_is a) (product-fits a)

pub overflow_add-sum-in-loop-k : goal.overflow_add-sum-in-loop-k
overflow_add-sum-in-loop-k c =
    let a = (goal.at.overflow_add-sum-in-loop-k c).After-factor in
    rw (product_is a, to_z-of_z (product-fits a), sum_is a) (sum_fits a)

pub loop-k-preserved : goal.loop-k-preserved
loop-k-preserved c =
    let a = (goal.at.loop-k-preserved c).After-factor in
    rw (product_is a, to_z-of_z (product-fits a), sum_is a, to_z-of_z (sum_fits a))

pub returns : goal.returns
unfolding value
returns c =
    let e : c.loop-k.k ≡ buckets = omega arith in
    rw e at c.loop-k.invariant
