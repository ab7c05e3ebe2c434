-- `after_last_digits` meets its contract. The invariant is `Reading`, from the seventh row on.
use Prim.Native.Nat.{ℕ, zero, suc, ◌+◌, ◌-◌, ◌/◌, ◌^◌, ◌<◌}
use mathlib.Core.List.{[], ◌∷◌}
use mathlib.Core.Path.{◌≡◌, refl}
use native.Mathlib.Omega.{arith}
use lib.ListN.{get_or}
use Rattle.factor.proofs.Digits.{Reading, most, begun, digit-is, digit_low, light, lower-turn, last-low, last_turn}
use Rattle.factor.proofs.after_last_digits.Goals as goal
use Rattle.factor.proofs.after_last_digits.Goals.{After-loop-weight, In-loop-weight}

-- the weights that the loop has
listed : (k : ℕ) → k < 4 → get_or (10000 ∷ 1000 ∷ 100 ∷ 10 ∷ []) k 0 ≡ 10 ^ (11 - (6 + k)) / 10
listed zero l = refl
listed (suc zero) l = refl
listed (suc (suc zero)) l = refl
listed (suc (suc (suc zero))) l = refl
listed (suc (suc (suc (suc k)))) l = absurd (omega arith)

here : (c : In-loop-weight) → get_or (10000 ∷ 1000 ∷ 100 ∷ 10 ∷ []) c.loop-weight.weight-index 0 ≡ 10 ^ (11 - (6 + c.loop-weight.weight-index)) / 10
here c = listed c.loop-weight.weight-index c.loop-weight-test.true

pub loop-weight-init : goal.loop-weight-init
loop-weight-init c = begun _ _ 6 (omega arith) c.requires.1

pub lessened-product-requires : goal.lessened-product-requires
lessened-product-requires c =
    let r = c.loop-weight.invariant in
    rw (here (goal.at.lessened-product-requires c).In-loop-weight)
    (most c.requires.0 r, rw (digit-is r (omega (arith, c.loop-weight-test.true))) (digit_low _ _), light r (omega arith) (omega (arith, c.loop-weight-test.true)))

pub loop-weight-preserved : goal.loop-weight-preserved
loop-weight-preserved c =
    let is = here (goal.at.loop-weight-preserved c).In-loop-weight in
    let next : 6 + (c.loop-weight.weight-index + 1) ≡ 6 + c.loop-weight.weight-index + 1 = omega arith in
    let turned = lower-turn c.loop-weight.invariant (omega arith) (omega (arith, c.loop-weight-test.true)) (rw is at c.lessened-product.ensures) in
    rw (is, next) record { product_is = turned.product_is; rest-is = turned.rest-is; weight_is = refl }

-- past the loop one digit is left, the last
left : (c : After-loop-weight) → Reading c.args.start c.args.exponent c.loop-weight.product c.loop-weight.rest 1 10
left c = let e : c.loop-weight.weight-index ≡ 4 = omega arith in rw e at c.loop-weight.invariant

pub overflow_add-rest : goal.overflow_add-rest
overflow_add-rest c = omega (arith, last-low (left c))

pub lessened-requires : goal.lessened-requires
lessened-requires c = (most c.requires.0 (left c), omega (arith, last-low (left c)), omega arith)

pub returns : goal.returns
returns c = last_turn (left (goal.at.returns c).After-loop-weight) (omega arith) c.lessened.ensures
