-- A currency in which there is nothing reports zeros, and so does one that nothing uses.
use Prim.Native.Nat.{ℕ, ◌<◌}
use mathlib.Core.Bool.{Bool, true, false, not, ◌&&◌}
use mathlib.Core.List.{List, [], ◌∷◌}
use mathlib.Core.Path.{◌≡◌, refl, ap}
use native.Mathlib.Omega.{arith}
use lib.IntN.{ℤ, pos, nat_abs, ◌+ℤ◌}
use borrow.Author.Tests.{not-false}
use Rattle.std.specs.Prelude.{if◌then◌else◌}
use Rattle.laws.specs.Tests.{◌is◌}
use Rattle.laws.specs.Sums.{total_ℤ, some}
use Rattle.laws.specs.Nearest.{nearest, nearest_ℤ}
use Rattle.laws.proofs.Tests.{or-false}
use Rattle.laws.proofs.Sums.{sum-none}
use Rattle.paper.specs.Ladder.{buckets}
use Rattle.paper.specs.Records.{Record, flows, option, curve, currency_of, is_curve}
use Rattle.paper.specs.Flow.{flow, adds}
use Rattle.paper.specs.Ledger.{Totals, of_currency_ℤ, totals, used}
use Rattle.paper.specs.Change.{change, net_size, tolerance_of, tolerance}
use Rattle.paper.proofs.ChangeClose.{nil-value}

-- where totals have nothing, there is no change and no tolerance: in a currency c, in the base and in the scenario i
module _ (t : Totals) (c i : ℕ) where
  nothing-size : ((k : ℕ) → k < buckets → t.cell c i k ≡ pos 0) → net_size t c i ≡ 0
  unfolding net_size
  nothing-size none = sum-none (λ k. nat_abs (t.cell c i k)) buckets (λ k l. ap nat_abs (none k l))

module _ (t : Totals) (c i : ℕ) (base : (k : ℕ) → k < buckets → t.cell c 0 k ≡ pos 0) (flows : (k : ℕ) → k < buckets → t.cell c i k ≡ pos 0) where
  pub nothing-change : t.add_on c i ≡ pos 0 → change t c i ≡ pos 0
  unfolding change nearest_ℤ nearest
  nothing-change none = rw (nil-value t c 0 (nothing-size t c 0 base), nil-value t c i (nothing-size t c i flows), none)

  pub nothing-tolerance : tolerance t c i ≡ 0
  unfolding tolerance tolerance_of
  nothing-tolerance = rw (nothing-size t c 0 base, nothing-size t c i flows)

-- what only positions add to is nil where the currency has none
nil-unused : (f : Record → ℤ) → ((r : Record) → is_curve r ≡ true → f r ≡ pos 0) → (c : ℕ) (kept : List Record) → used kept c ≡ false → of_currency_ℤ f c kept ≡ pos 0
unfolding used of_currency_ℤ some total_ℤ
nil-unused f nil c [] e = refl
nil-unused f nil c (r ∷ kept) e =
    let both = or-false (currency_of r is c && not (is_curve r)) (some (λ x. currency_of x is c && not (is_curve x)) kept) e in
    by (currency_of r is c) both.0 (nil-unused f nil c kept both.1)
  where
    rest : ℤ
    rest = total_ℤ (λ x. if currency_of x is c then f x else pos 0) kept

    by : (b : Bool) → b && not (is_curve r) ≡ false → rest ≡ pos 0 → (if b then f r else pos 0) +ℤ rest ≡ pos 0
    by true n h = rw (nil r (not-false (is_curve r) n), h)
    by false n h = rw h

curve-flow : (i k : ℕ) (r : Record) → is_curve r ≡ true → flow r i k ≡ pos 0
unfolding is_curve flow
curve-flow i k (flows c f) e = let z : ◌≡◌ {A = ℕ} 0 1 = cc in absurd (omega arith)
curve-flow i k (option c side values) e = refl
curve-flow i k (curve c z) e = refl

curve-adds : (i : ℕ) (r : Record) → is_curve r ≡ true → adds r i ≡ pos 0
unfolding is_curve adds
curve-adds i (flows c f) e = refl
curve-adds i (option c side values) e = let z : ◌≡◌ {A = ℕ} 0 1 = cc in absurd (omega arith)
curve-adds i (curve c z) e = refl

module _ (kept : List Record) (c : ℕ) (idle : used kept c ≡ false) where
  pub unused-cell : (i k : ℕ) → (totals kept).cell c i k ≡ pos 0
  unused-cell i k = nil-unused (λ r. flow r i k) (curve-flow i k) c kept idle

  pub unused-add_on : (i : ℕ) → (totals kept).add_on c i ≡ pos 0
  unused-add_on i = nil-unused (λ r. adds r i) (curve-adds i) c kept idle

  pub unused-change : (i : ℕ) → change (totals kept) c i ≡ pos 0
  unused-change i = nothing-change (totals kept) c i (λ k _. unused-cell 0 k) (λ k _. unused-cell i k) (unused-add_on i)

  pub unused-tolerance : (i : ℕ) → tolerance (totals kept) c i ≡ 0
  unused-tolerance i = nothing-tolerance (totals kept) c i (λ k _. unused-cell 0 k) (λ k _. unused-cell i k)
