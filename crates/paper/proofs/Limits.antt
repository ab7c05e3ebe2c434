-- Sums over the records of a currency: one record more; net flows are within the gross ones; admitted records keep both sums of 14 at or
-- below a billion.
use Prim.Native.Nat.{ℕ, ◌+◌, ◌≤◌, ◌<◌}
use mathlib.Core.Bool.{Bool, true, false}
use mathlib.Core.List.{List, [], ◌∷◌, ◌++◌}
use mathlib.Core.Path.{◌≡◌, refl, ◌∙◌}
use native.Mathlib.Nat.{le_trans}
use native.Mathlib.Omega.{arith}
use lib.IntN.{ℤ, pos, nat_abs, ◌+ℤ◌}
use borrow.Author.Tests.{eqb-true, ltb-false}
use Rattle.std.specs.Prelude.{if◌then◌else◌}
use Rattle.laws.specs.Tests.{◌is◌, any}
use Rattle.laws.specs.Sums.{sum, total}
use Rattle.laws.proofs.Tests.{or-false, any_none}
use Rattle.laws.proofs.Sums.{sum-le, sum-nil}
use Rattle.laws.proofs.Totals.{total-more, total_ℤ-more, total_ext, abs-total, sum-total}
use Rattle.paper.specs.Scales.{billion}
use Rattle.paper.specs.Ladder.{buckets}
use Rattle.paper.specs.Records.{Record, currency_of}
use Rattle.paper.specs.Flow.{flow, adds, magnitude}
use Rattle.paper.specs.Ledger.{of_currency, of_currency_ℤ, totals, SoFar, so_far}
use Rattle.paper.specs.TurnedDown.{flows_over, options_over, over_limit}

-- ---- one record more

module _ (c : ℕ) (kept : List Record) (r : Record) where
  pub of_currency-more : (f : Record → ℕ) → of_currency f c (kept ++ (r ∷ [])) ≡ of_currency f c kept + (if currency_of r is c then f r else 0)
  unfolding of_currency
  of_currency-more f = total-more (λ x. if currency_of x is c then f x else 0) kept r

  pub of_currency_ℤ-more : (f : Record → ℤ) → of_currency_ℤ f c (kept ++ (r ∷ [])) ≡ of_currency_ℤ f c kept +ℤ (if currency_of r is c then f r else pos 0)
  unfolding of_currency_ℤ
  of_currency_ℤ-more f = total_ℤ-more (λ x. if currency_of x is c then f x else pos 0) kept r

-- ---- net within gross

abs-if : (b : Bool) (z : ℤ) → nat_abs (if b then z else pos 0) ≡ (if b then nat_abs z else 0)
abs-if true z = refl
abs-if false z = refl

sum-if : (b : Bool) (f : ℕ → ℕ) (n : ℕ) → sum (λ k. if b then f k else 0) n ≡ (if b then sum f n else 0)
sum-if true f n = refl
sum-if false f n = sum-nil n

pub abs-of_currency : (f : Record → ℤ) (c : ℕ) (kept : List Record) → nat_abs (of_currency_ℤ f c kept) ≤ of_currency (λ r. nat_abs (f r)) c kept
unfolding of_currency of_currency_ℤ
abs-of_currency f c kept =
    omega (
      arith,
      abs-total (λ r. if currency_of r is c then f r else pos 0) kept,
      total_ext (λ r. nat_abs (if currency_of r is c then f r else pos 0)) (λ r. if currency_of r is c then nat_abs (f r) else 0) kept (λ r. abs-if (currency_of r is c) (f r)),
    )

sum-of_currency : (f : Record → ℕ → ℕ) (c : ℕ) (kept : List Record) (n : ℕ) → sum (λ k. of_currency (λ r. f r k) c kept) n ≡ of_currency (λ r. sum (f r) n) c kept
unfolding of_currency
sum-of_currency f c kept n =
    sum-total (λ r k. if currency_of r is c then f r k else 0) kept n ∙ total_ext _ _ kept (λ r. sum-if (currency_of r is c) (f r) n)

-- in every currency and scenario the magnitudes of the nineteen net flows add up to at most the gross ones
pub net-within : (kept : List Record) (c i : ℕ) → sum (λ k. nat_abs ((totals kept).cell c i k)) buckets ≤ (so_far kept).size c i
unfolding magnitude
net-within kept c i =
    omega (
      arith,
      sum-le (λ k. nat_abs ((totals kept).cell c i k)) (λ k. of_currency (λ r. nat_abs (flow r i k)) c kept) buckets (λ k _. abs-of_currency (λ r. flow r i k) c kept),
      sum-of_currency (λ r k. nat_abs (flow r i k)) c kept buckets,
    )

-- ---- 14 was tested

pub record Limited (kept : List Record) : Type 0 where
  pub size : (c i : ℕ) → i < 7 → (so_far kept).size c i ≤ billion
  pub option_size : (c i : ℕ) → 0 < i → i < 7 → (so_far kept).option_size c i ≤ billion

pub limited-none : Limited []
unfolding of_currency total
limited-none = record { size = λ c i l. omega arith; option_size = λ c i l m. omega arith }

-- a sum under its limit stays so, where the record's own currency was tested
stays-under : (f : Record → ℕ) (kept : List Record) (r : Record) (c : ℕ) → of_currency f c kept ≤ billion
    → of_currency f (currency_of r) kept + f r ≤ billion → of_currency f c (kept ++ (r ∷ [])) ≤ billion
stays-under f kept r c h t = rw (of_currency-more c kept r f) (by (currency_of r is c) refl)
  where
    by : (b : Bool) → currency_of r is c ≡ b → of_currency f c kept + (if b then f r else 0) ≤ billion
    by true e = rw (eqb-true (currency_of r) c e) at t
    by false e = omega arith

pub record Room (before : SoFar) (r : Record) : Type 0 where
  pub size : (i : ℕ) → i < 7 → before.size (currency_of r) i + magnitude r i ≤ billion
  pub option_size : (i : ℕ) → 0 < i → i < 7 → before.option_size (currency_of r) i + nat_abs (adds r i) ≤ billion

pub room_of : (before : SoFar) (r : Record) → over_limit before r ≡ false → Room before r
unfolding over_limit flows_over options_over
room_of before r e =
    let neither = or-false (any (flows_over before r) 0 7) (any (options_over before r) 1 6) e in
    record {
      size = λ i l. ltb-false _ _ (any_none (flows_over before r) 0 7 neither.0 i (omega arith) l);
      option_size = λ i p l. ltb-false _ _ (any_none (options_over before r) 1 6 neither.1 i p l);
    }

pub limited-more : {kept : List Record} (r : Record) → Limited kept → over_limit (so_far kept) r ≡ false → Limited (kept ++ (r ∷ []))
limited-more {kept} r h e =
    let room = room_of (so_far kept) r e in
    record {
      size = λ c i l. stays-under (λ x. magnitude x i) kept r c (h.size c i l) (room.size i l);
      option_size = λ c i p l. stays-under (λ x. nat_abs (adds x i)) kept r c (h.option_size c i p l) (room.option_size i p l);
    }

-- so the net flows are within a billion, and so are the add-ons
pub net-limited : {kept : List Record} → Limited kept → (c i : ℕ) → i < 7 → sum (λ k. nat_abs ((totals kept).cell c i k)) buckets ≤ billion
net-limited {kept} h c i l = le_trans (net-within kept c i) (h.size c i l)

pub add_on-limited : {kept : List Record} → Limited kept → (c i : ℕ) → 0 < i → i < 7 → nat_abs ((totals kept).add_on c i) ≤ billion
add_on-limited {kept} h c i p l = le_trans (abs-of_currency (λ r. adds r i) c kept) (h.option_size c i p l)
