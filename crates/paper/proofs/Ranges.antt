-- What a field lies in once it is read, and what the rules after the fields leave; a refusal on the way is one of a record, at the field's place.
use Prim.Native.Nat.{ℕ, zero, suc, ◌+◌, ◌*◌, ◌≤◌, ◌<◌}
use mathlib.Core.Bool.{Bool, true, false, not, ◌&&◌, ◌||◌}
use mathlib.Core.List.{List}
use mathlib.Core.Logic.{⊎_elim}
use mathlib.Core.Path.{◌≡◌, refl}
use native.Mathlib.Nat.{eq-zero-or-pos, mul-le-mul_right}
use native.Mathlib.Omega.{arith}
use lib.IntN.{ℤ, pos, neg_ℤ, +ℤ_idr}
use lib.ListN.{get_or}
use lib.Signed.{lt_z}
use borrow.Author.Tests.{leb-true, ltb-false, eqb-true, not-false}
use Rattle.laws.specs.Tests.{◌is◌, ◌up_to◌, ◌below◌, first}
use Rattle.laws.specs.Sums.{sum_of}
use Rattle.laws.proofs.Tests.{and-true, or-true, or-false, any_none, first_to, first-none}
use Rattle.laws.proofs.Integers.{side}
use Rattle.laws.proofs.Order.{lt_z-false}
use Rattle.paper.specs.Refusals.{number_of, of_field}
use Rattle.paper.specs.Scales.{billion}
use Rattle.paper.specs.Ladder.{buckets}
use Rattle.paper.specs.Curve.{Curve, rate_changes, shocked_rate}
use Rattle.paper.specs.Behaviour.{core_cap}
use Rattle.paper.specs.TurnedDown.{bad_currency, bad_side, bad_months, bad_days, bad_period, bad_count, bad_amount, bad_option, bad_share, bad_category, bad_rate, bad_shock, core_above_cap, bad_shocked}
use Rattle.paper.specs.Fields.{currency_at, side_at, months_at, days_at, period_at, count_at, amount_at, option_at, share_at, category_at, rate_at, shock_at, each}
use Rattle.paper.specs.Book.{touches_nothing}
use Rattle.paper.specs.Sound.{Between, Counted, Small, Ranged, Listed, Amounts}
use Rattle.paper.proofs.Checks.{Checks, Inside, in_field, field-known, each-known}

-- ---- by the circumstance

between-tested : (low high x : ℕ) → not (low up_to x && x up_to high) ≡ false → Between low high x
between-tested low high x e =
    let both = and-true (low up_to x) (x up_to high) (not-false _ e) in
    record { from = leb-true low x both.0; to = leb-true x high both.1 }

up-to-tested : (high x : ℕ) → (high below x) ≡ false → Between 0 high x
up-to-tested high x e = record { from = omega arith; to = ltb-false high x e }

pub period-range : (p : ℕ) → bad_period p ≡ false → Between 1 12 p
unfolding bad_period
period-range p e =
    ⊎_elim (λ u. ⊎_elim (λ v. ⊎_elim (this 1 (omega arith) (omega arith)) (this 3 (omega arith) (omega arith)) (or-true (p is 1) (p is 3) v))
    (this 6 (omega arith) (omega arith)) (or-true (p is 1 || p is 3) (p is 6) u))
    (this 12 (omega arith) (omega arith)) (or-true (p is 1 || p is 3 || p is 6) (p is 12) (not-false _ e))
  where
    this : (q : ℕ) → 1 ≤ q → q ≤ 12 → (p is q) ≡ true → Between 1 12 p
    this q low high t = let same = eqb-true p q t in record { from = omega arith; to = omega arith }

count-range : (start period count : ℕ) → bad_count start period count ≡ false → Counted start period count
unfolding bad_count
count-range start period count e =
    let both = or-false (count below 1) (600 below start + period * count) e in
    record { some = ltb-false _ _ both.0; last = ltb-false _ _ both.1 }

pub shock-range : (s : ℕ) → bad_shock s ≡ false → Between 0 1000 s
unfolding bad_shock
shock-range s e = up-to-tested 1000 s e

rate-range : (z : ℤ) → bad_rate z ≡ false → Ranged z
unfolding bad_rate
rate-range z e =
    let both = or-false (lt_z z (neg_ℤ (pos 50000))) (lt_z (pos 300000) z) e in
    record { low = omega (arith, side z, lt_z-false z (neg_ℤ (pos 50000)) both.0); high = omega (arith, side z, lt_z-false (pos 300000) z both.1) }

-- ---- the fields, in a body of so many bytes

module _ {bytes : ℕ} (body : List ℕ) (o : ℕ) (l : o < bytes) where
  pub currency-known : (top : ℕ) → Checks (Inside bytes) (Between 1 top) (currency_at top body o)
  unfolding bad_currency touches_nothing number_of of_field
  currency-known top = field-known (between-tested 1 top) _ _ _ (in_field refl refl l)

  pub side-known : Checks (Inside bytes) (Between 1 2) (side_at body o)
  unfolding bad_side touches_nothing number_of of_field
  side-known = field-known (between-tested 1 2) _ _ _ (in_field refl refl l)

  pub months-known : Checks (Inside bytes) (Between 0 600) (months_at body o)
  unfolding bad_months touches_nothing number_of of_field
  months-known = field-known (up-to-tested 600) _ _ _ (in_field refl refl l)

  pub days-known : Checks (Inside bytes) (Between 0 30) (days_at body o)
  unfolding bad_days touches_nothing number_of of_field
  days-known = field-known (up-to-tested 30) _ _ _ (in_field refl refl l)

  pub period-known : Checks (Inside bytes) (λ p. bad_period p ≡ false) (period_at body o)
  unfolding touches_nothing number_of of_field
  period-known = field-known (λ p e. e) _ _ _ (in_field refl refl l)

  pub count-known : (start period : ℕ) → Checks (Inside bytes) (Counted start period) (count_at start period body o)
  unfolding touches_nothing number_of of_field
  count-known start period = field-known (count-range start period) _ _ _ (in_field refl refl l)

  pub amount-known : Checks (Inside bytes) (Between 0 billion) (amount_at body o)
  unfolding bad_amount touches_nothing number_of of_field
  amount-known = field-known (up-to-tested billion) _ _ _ (in_field refl refl l)

  pub option-known : Checks (Inside bytes) Small (option_at body o)
  unfolding bad_option touches_nothing number_of of_field
  option-known = field-known (λ z e. record { small = ltb-false _ _ e }) _ _ _ (in_field refl refl l)

  pub share-known : Checks (Inside bytes) (Between 0 10000) (share_at body o)
  unfolding bad_share touches_nothing number_of of_field
  share-known = field-known (up-to-tested 10000) _ _ _ (in_field refl refl l)

  pub category-known : Checks (Inside bytes) (Between 1 3) (category_at body o)
  unfolding bad_category touches_nothing number_of of_field
  category-known = field-known (between-tested 1 3) _ _ _ (in_field refl refl l)

  pub rate-known : Checks (Inside bytes) Ranged (rate_at body o)
  unfolding touches_nothing number_of of_field
  rate-known = field-known rate-range _ _ _ (in_field refl refl l)

  pub shock-known : Checks (Inside bytes) (Between 0 1000) (shock_at body o)
  unfolding touches_nothing number_of of_field
  shock-known = field-known shock-range _ _ _ (in_field refl refl l)

-- nineteen amounts, and nineteen rates
pub amounts-known : {bytes : ℕ} (body : List ℕ) (o : ℕ) → o + 4 * buckets ≤ bytes → Checks (Inside bytes) Amounts (each (amount_at body) buckets o)
amounts-known body o l = each-known buckets o (λ p m. amount-known body p (omega arith))

pub rates-known : {bytes : ℕ} (body : List ℕ) (o : ℕ) → o + 4 * buckets ≤ bytes → Checks (Inside bytes) (Listed Ranged buckets) (each (rate_at body) buckets o)
rates-known body o l = each-known buckets o (λ p m. rate-known body p (omega arith))

-- ---- the rules after the fields

cap-at-most : (category : ℕ) → core_cap category ≤ 90
cap-at-most zero = omega arith
cap-at-most (suc zero) = omega arith
cap-at-most (suc (suc zero)) = omega arith
cap-at-most (suc (suc (suc zero))) = omega arith
cap-at-most (suc (suc (suc (suc n)))) = omega arith

pub core-within : (category whole : ℕ) (core : List ℕ) → core_above_cap category whole core ≡ false → sum_of core ≤ whole
unfolding core_above_cap
core-within category whole core e =
    let capped : 100 * sum_of core ≤ core_cap category * whole = ltb-false _ _ e in
    omega (arith, mul-le-mul_right whole (cap-at-most category))

pub none-bad : (p : ℕ → Bool) → (first p 0 buckets below buckets) ≡ false → (k : ℕ) → k < buckets → p k ≡ false
none-bad p e k l =
    let end : buckets ≤ first p 0 buckets = ltb-false _ _ e in
    first-none p 0 buckets (omega (arith, first_to p 0 buckets)) k (omega arith) l

pub shocked-ranged : (z : Curve) → Listed Ranged buckets z.rates → ((k : ℕ) → k < buckets → bad_shocked z k ≡ false)
    → (i k : ℕ) → i < 7 → k < buckets → Ranged (shocked_rate z i k)
unfolding shocked_rate rate_changes bad_shocked
shocked-ranged z base ok i k l m = ⊎_elim still moved (eq-zero-or-pos i)
  where
    still : i ≡ 0 → Ranged (shocked_rate z i k)
    still e = rw e (rw (+ℤ_idr (get_or z.rates k (pos 0))) (base.at (pos 0) k m))

    moved : 0 < i → Ranged (shocked_rate z i k)
    moved p = rate-range (shocked_rate z i k) (any_none (λ j. bad_rate (shocked_rate z j k)) 1 6 (ok k m) i p l)
