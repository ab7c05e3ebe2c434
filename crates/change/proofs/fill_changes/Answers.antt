-- `fill_changes` meets its contract. The room is filled from the front with the changes; each difference of values and each change fits.
use Prim.Native.Nat.{ℕ, ◌+◌, ◌^◌, ◌<◌}
use mathlib.Core.List.{List, []}
use mathlib.Core.Path.{◌≡◌, sym, ap, ap₂, ◌∙◌}
use native.Mathlib.Omega.{arith}
use lib.IntN.{ℤ, pos, ◌+ℤ◌, ◌-ℤ◌}
use lib.Signed.{mag}
use mir.Syntax.{w64}
use mir.Val.{SFits, hbits, to_z, of_z}
use mir.Facts.{to_z-of_z}
use borrow.Author.Rules.{rules}
use Rattle.laws.specs.Nearest.{nearest_ℤ}
use Rattle.laws.proofs.Widths.{back}
use Rattle.laws.proofs.Filling.{filled_next, filled-from}
use Rattle.paper.specs.Scales.{billion}
use Rattle.paper.specs.Flow.{scenarios, shocked}
use Rattle.paper.specs.Ledger.{Totals}
use Rattle.paper.specs.Change.{value, change}
use Rattle.arrays.specs.Rooms.{totals_by}
use Rattle.change.specs.Bounds.{BoundedRow, Bounded}
use Rattle.change.proofs.Agreement.{SameRow, value_same, row-bounded}
use Rattle.change.proofs.CurrencyParts.{no-add-ons, part-add_on}
use Rattle.change.proofs.Bounds.{difference-most, difference-fits, change-fits}
use Rattle.change.proofs.fill_changes.Goals as goal
use Rattle.change.proofs.fill_changes.Goals.{After-value_of-value}

-- a value, and a row's bound, need no add-ons
module _ (cells add_ons rates : List ℤ) (b : Bounded (totals_by cells add_ons rates) 1) where
  abbrev t : Totals
  t = totals_by cells add_ons rates

  abbrev bare : (i : ℕ) → SameRow t 1 i (totals_by cells [] rates) 1 i
  bare = no-add-ons cells add_ons rates 1

  row : (i : ℕ) → i < scenarios → BoundedRow (totals_by cells [] rates) 1 i
  row i l = row-bounded (bare i) (b.rows i l)

  value-read : (i : ℕ) (z : ℤ) → mag z < 2 ^ hbits w64 → z ≡ value (totals_by cells [] rates) 1 i → to_z w64 (of_z w64 z) ≡ value t 1 i
  value-read i z h e = back w64 z h ∙ e ∙ sym (value_same (bare i))

-- the change of totals t and scenario i: z is the difference that was rounded to the loss, and add_on what was read
change-is : (t : Totals) (i : ℕ) {z loss add_on : ℤ} → z ≡ value t 1 0 -ℤ value t 1 i → SFits w64 (value t 1 0 -ℤ value t 1 i) → mag loss < 2 ^ hbits w64
    → loss ≡ nearest_ℤ (to_z w64 (of_z w64 z)) billion → mag add_on < 2 ^ hbits w64 → t.add_on 1 i ≡ add_on
    → to_z w64 (of_z w64 loss) +ℤ to_z w64 (of_z w64 add_on) ≡ change t 1 i
unfolding change
change-is t i {z} {loss} {add_on} d f h l k a =
    ap₂ ◌+ℤ◌ (back w64 loss h ∙ l ∙ ap (λ (y : ℤ). nearest_ℤ y billion) (rw d (to_z-of_z f))) (back w64 add_on k ∙ sym a)

-- the difference of this turn, and the change
module _ (c : After-value_of-value) where
  abbrev totals : Totals
  totals = t c.args.cells.now c.args.add_ons.now c.args.rates.now c.requires.bounded

  difference-is : to_z w64 (of_z w64 c.value_of-base.result) -ℤ to_z w64 (of_z w64 c.value_of-value.result) ≡ value totals 1 0 -ℤ value totals 1 (c.loop-i.i + 1)
  difference-is =
      let read = value-read c.args.cells.now c.args.add_ons.now c.args.rates.now c.requires.bounded in
      ap₂ ◌-ℤ◌
      (read 0 c.value_of-base.result c.value_of-base.type_inv c.value_of-base.ensures)
      (read (c.loop-i.i + 1) c.value_of-value.result c.value_of-value.type_inv c.value_of-value.ensures)

  fits : SFits w64 (value totals 1 0 -ℤ value totals 1 (c.loop-i.i + 1))
  fits = difference-fits totals 1 c.requires.bounded (c.loop-i.i + 1) (omega arith) (omega arith)

  held : SFits w64 (change totals 1 (c.loop-i.i + 1))
  held = change-fits totals 1 c.requires.bounded (c.loop-i.i + 1) (omega arith) (omega arith)

pub value_of-base-requires-clause-bounded_row : goal.value_of-base-requires-clause-bounded_row
value_of-base-requires-clause-bounded_row c = row c.args.cells.now c.args.add_ons.now c.args.rates.now c.requires.bounded 0 (omega arith)

pub value_of-value-requires-clause-bounded_row : goal.value_of-value-requires-clause-bounded_row
value_of-value-requires-clause-bounded_row c = row c.args.cells.now c.args.add_ons.now c.args.rates.now c.requires.bounded (c.loop-i.i + 1) (omega arith)

pub overflow_sub-base : goal.overflow_sub-base
overflow_sub-base c = let a = (goal.at.overflow_sub-base c).After-value_of-value in rw (difference-is a) (fits a)

pub in_thousands-requires : goal.in_thousands-requires
in_thousands-requires c =
    let a = (goal.at.in_thousands-requires c).After-value_of-value in
    rw (difference-is a, to_z-of_z (fits a)) (difference-most (totals a) 1 c.requires.bounded (c.loop-i.i + 1) (omega arith) (omega arith))

pub overflow_add-change : goal.overflow_add-change
overflow_add-change c =
    let a = (goal.at.overflow_add-change c).After-value_of-value in
    rw (change-is (totals a) (c.loop-i.i + 1) (difference-is a) (fits a) (omega arith) c.in_thousands.ensures (omega arith) (part-add_on c.args.add_ons.now c.loop-i.i)) (held a)

pub loop-i-preserved : goal.loop-i-preserved
loop-i-preserved c =
    let at = c.loop-i in
    let a = (goal.at.loop-i-preserved c).After-value_of-value in
    let is = change-is (totals a) (at.i + 1) (difference-is a) (fits a) (omega arith) c.in_thousands.ensures (omega arith) (part-add_on c.args.add_ons.now at.i) in
    filled_next (pos 0) _ at.changes at.i _ at.invariant (ap (λ (z : ℤ). to_z w64 (of_z w64 z)) is ∙ to_z-of_z (held a)) (search rules)

pub returns : goal.returns
returns c = let at = c.loop-i in filled-from (pos 0) _ 1 at.changes shocked (omega arith) (λ j o. at.invariant j (omega arith))
