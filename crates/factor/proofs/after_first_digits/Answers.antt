-- `after_first_digits` meets its contract. The invariant is `Reading`: the product over the rows so far, the digits left, and the weight of the highest.
use Prim.Native.Nat.{ℕ, ◌-◌, ◌/◌, ◌%◌, ◌^◌, ◌<◌}
use mathlib.Core.List.{[]}
use mathlib.Core.Path.{◌≡◌, ap, ◌∙◌}
use native.Mathlib.Omega.{arith}
use lib.ListN.{get_or}
use Rattle.paper.specs.Factor.{entry, digit, after_digits}
use Rattle.factor.proofs.Entries.{entry_at, entry-most}
use Rattle.factor.proofs.Digits.{most, begun, weighs, digit-is, digit_low, turn}
use Rattle.factor.proofs.after_first_digits.Goals as goal
use Rattle.factor.proofs.after_first_digits.Goals.{In-loop-row}

module _ (c : In-loop-row) where
  abbrev row : ℕ
  row = c.loop-row.row-index

  within : row < 11
  within = omega (arith, c.loop-row-test.true)

  low : c.loop-row.rest / c.loop-row.weight < 10
  low = rw (digit-is c.loop-row.invariant within) (digit_low _ _)

  entry_here : get_or (get_or c.table-row-items.result.now row []) (c.loop-row.rest / c.loop-row.weight) 0
      ≡ entry row (digit c.args.exponent row)
  entry_here =
      ap (λ t. get_or (get_or t row []) (c.loop-row.rest / c.loop-row.weight) 0) c.table-row-items.ensures
      ∙ entry_at _ _ c.loop-row-test.true low
      ∙ ap (entry row) (digit-is c.loop-row.invariant within)

pub loop-row-init : goal.loop-row-init
loop-row-init c = begun _ _ 0 (omega arith) c.requires.1

pub nonzero_div-digit : goal.nonzero_div-digit
nonzero_div-digit c = weighs c.loop-row.invariant (within c)

pub scaled-product-requires : goal.scaled-product-requires
scaled-product-requires c =
    let turn = (goal.at.scaled-product-requires c).In-loop-row in
    (most c.requires.0 c.loop-row.invariant, rw (entry_here turn) (entry-most _ _))

pub loop-row-preserved : goal.loop-row-preserved
loop-row-preserved c =
    let here = (goal.at.loop-row-preserved c).In-loop-row in
    turn c.loop-row.invariant (within here) (rw (entry_here here) at c.scaled-product.ensures)

pub returns : goal.returns
returns c =
    let r = c.loop-row.invariant in
    let all : c.loop-row.row-index ≡ 6 = omega arith in
    let Y = c.args.exponent in
    (r.product_is ∙ ap (after_digits _ Y) all, r.rest-is ∙ ap (λ (n : ℕ). Y % 10 ^ (11 - n)) all)
