-- The bucket of a term, by the months that end with an upper end.
use Prim.Native.Nat.{ℕ, suc, zero-le, ◌-◌, ◌≤◌, ◌<◌}
use mathlib.Core.Bool.{Bool, true, false, ◌&&◌}
use mathlib.Core.Logic.{⊎_elim}
use mathlib.Core.Path.{◌≡◌, refl, sym, ap, ◌∙◌}
use native.Mathlib.Nat.{eq-or-lt_of_le}
use native.Mathlib.Omega.{arith}
use borrow.Author.Tests.{lt-ltb, le-ltb, eq-eqb, ne_eqb, ltb-true}
use Rattle.std.specs.Prelude.{if◌then◌else◌}
use Rattle.laws.specs.Tests.{◌up_to◌, ◌below◌, all}
use Rattle.laws.proofs.Tests.{and-true, all-at}
use Rattle.paper.specs.Ladder.{Term, not_after, upper_ends, upper_end, bucket_of}
use Rattle.paper.proofs.Buckets.{in-bucket, one-bucket}

-- ---- a term against another

pub in-earlier-month : (t u : Term) → t.months < u.months → not_after t u ≡ true
unfolding not_after
in-earlier-month t u h = rw (lt-ltb t.months u.months h)

pub in-later-month : (t u : Term) → u.months < t.months → not_after t u ≡ false
unfolding not_after
in-later-month t u h =
    let l : u.months ≤ t.months = omega arith in
    rw (le-ltb t.months u.months l, ne_eqb t.months u.months (λ e. omega arith))

pub in-same-month : (t u : Term) → t.months ≡ u.months → not_after t u ≡ t.days up_to u.days
unfolding not_after
in-same-month t u e =
    let l : u.months ≤ t.months = omega arith in
    rw (le-ltb t.months u.months l, eq-eqb t.months u.months e)

-- ---- the months from `from` to the end of bucket k + 1

-- earlier ends lie before these months
abbrev earlier_ends : ℕ → ℕ → Bool
earlier_ends k from = all (λ j. (upper_end j).months below from) 0 k

-- later ends lie after them
abbrev later_ends : ℕ → Bool
later_ends k = all (λ j. (upper_end k).months below (upper_end j).months) (suc k) (17 - k)

abbrev pub around : ℕ → ℕ → Bool
around k from = k below 18 && (earlier_ends k from && later_ends k)

after-ends : (k from : ℕ) (t : Term) → earlier_ends k from ≡ true → from ≤ t.months → (j : ℕ) → j < k → not_after t (upper_end j) ≡ false
after-ends k from t a l j m =
    let e : (upper_end j).months < from = ltb-true _ _ (all-at (λ i. (upper_end i).months below from) 0 k a j zero-le (omega arith)) in
    in-later-month t (upper_end j) (omega arith)

-- a term in these months belongs to the bucket, or, after the end, to the next one
in-months : (k from : ℕ) (t : Term) → around k from ≡ true → from ≤ t.months → t.months ≤ (upper_end k).months
    → (if not_after t (upper_end k) then suc k else suc (suc k)) ≡ bucket_of t
in-months k from t a l h = by (not_after t (upper_end k)) refl
  where
    ends : (k below 18 ≡ true) × (earlier_ends k from && later_ends k ≡ true)
    ends = and-true (k below 18) (earlier_ends k from && later_ends k) a

    few : k < 18
    few = ltb-true k 18 ends.0

    earlier : (j : ℕ) → j < k → not_after t (upper_end j) ≡ false
    earlier = after-ends k from t (and-true (earlier_ends k from) (later_ends k) ends.1).0 l

    later : suc k < 18 → not_after t (upper_end (suc k)) ≡ true
    later m =
        let e : (upper_end k).months < (upper_end (suc k)).months = ltb-true _ _
        (all-at (λ i. (upper_end k).months below (upper_end i).months) (suc k) (17 - k) (and-true (earlier_ends k from) (later_ends k) ends.1).1
        (suc k) (omega arith) (omega arith)) in
        in-earlier-month t (upper_end (suc k)) (omega arith)

    at : (j i : ℕ) → suc j ≡ suc i → not_after t (upper_end j) ≡ not_after t (upper_end i)
    at j i e = let same : j ≡ i = omega arith in ap (λ (n : ℕ). not_after t (upper_end n)) same

    by : (b : Bool) → not_after t (upper_end k) ≡ b → (if b then suc k else suc (suc k)) ≡ bucket_of t
    by true e = sym (one-bucket t (suc k) (record {
      from = omega arith;
      to = omega (arith, few);
      after = λ j m. earlier j (omega arith);
      not_past = λ j q m. at j k q ∙ e;
    }))
    by false e = sym (one-bucket t (suc (suc k)) (record {
      from = omega arith;
      to = omega (arith, few);
      after = λ j m. ⊎_elim (λ (q : j ≡ k). at j k (ap suc q) ∙ e) (λ q. earlier j q) (eq-or-lt_of_le (omega arith));
      not_past = λ j q m. at j (suc k) q ∙ later (omega arith);
    }))

-- ---- as the arms of the decision ask it: with the bounds

bounded : {r : ℕ} (t : Term) → r ≡ bucket_of t → (r ≡ bucket_of t) × ((1 ≤ r) × (r ≤ 19))
bounded t e = (e, omega (arith, (in-bucket t).from, (in-bucket t).to))

pub by_end : (k from : ℕ) (t : Term) {r : ℕ} → around k from ≡ true → from ≤ t.months → t.months ≤ (upper_end k).months
    → r ≡ (if not_after t (upper_end k) then suc k else suc (suc k)) → (r ≡ bucket_of t) × ((1 ≤ r) × (r ≤ 19))
by_end k from t a l h e = bounded t (e ∙ in-months k from t a l h)

-- a term of more months than the last end
pub past-ends : (t : Term) → 241 ≤ t.months → (19 ≡ bucket_of t) × ((1 ≤ 19) × (19 ≤ 19))
unfolding upper_ends all
past-ends t h = bounded t (sym (one-bucket t 19 (record {
  from = omega arith;
  to = omega arith;
  after = λ k m. after-ends 18 241 t refl h k (omega arith);
  not_past = λ k e m. absurd (omega arith);
})))
