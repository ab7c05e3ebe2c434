-- The time ladder: an end belongs to its bucket, one day more to the next, and every term has exactly one bucket.
use Prim.Native.Nat.{ℕ, suc, ◌-◌, ◌≤◌, ◌<◌}
use mathlib.Core.Bool.{Bool, true, false, ◌&&◌}
use mathlib.Core.Path.{◌≡◌, refl, ap, ◌∙◌}
use native.Mathlib.Omega.{arith}
use borrow.Author.Tests.{eqb-true}
use Rattle.laws.specs.Tests.{◌is◌, all, first}
use Rattle.laws.proofs.Tests.{and-true, all-at, Stops, first_stops, stops-once}
use Rattle.paper.specs.Ladder.{buckets, Term, not_after, upper_ends, upper_end, bucket_of}

-- ---- each of the eighteen ends, by one computed test

abbrev day_more : Term → Term
day_more t = record { months = t.months; days = suc t.days }

pub record EndsAt (t : Term) (bucket : ℕ) : Type 0 where
  pub belongs : bucket_of t ≡ bucket
  pub past : bucket_of (day_more t) ≡ suc bucket

end_test : ℕ → Bool
end_test k = bucket_of (upper_end k) is suc k && bucket_of (day_more (upper_end k)) is suc (suc k)

ends-tested : all end_test 0 18 ≡ true
unfolding end_test all bucket_of first not_after upper_ends
ends-tested = refl

pub ends-belong : (k : ℕ) → k < 18 → EndsAt (upper_end k) (suc k)
unfolding end_test
ends-belong k l =
    let both = and-true (bucket_of (upper_end k) is suc k) (bucket_of (day_more (upper_end k)) is suc (suc k)) (all-at end_test 0 18 ends-tested k (omega arith) l) in
    record { belongs = eqb-true _ _ both.0; past = eqb-true _ _ both.1 }

-- ---- every term has exactly one bucket

pub record InBucket (t : Term) (bucket : ℕ) : Type 0 where
  pub from : 1 ≤ bucket
  pub to : bucket ≤ buckets
  pub after : (k : ℕ) → suc k < bucket → not_after t (upper_end k) ≡ false
  pub not_past : (k : ℕ) → suc k ≡ bucket → k < 18 → not_after t (upper_end k) ≡ true

pub in-bucket : (t : Term) → InBucket t (bucket_of t)
unfolding bucket_of
in-bucket t =
    let p : ℕ → Bool = λ k. not_after t (upper_end k) in
    let s = first_stops p 0 18 in
    record {
      from = omega arith;
      to = omega (arith, s.to);
      after = λ k l. s.before k (omega arith) (omega arith);
      not_past = λ k e l. let same : first p 0 18 ≡ k = omega arith in rw same at (s.holds (omega arith));
    }

pub one-bucket : (t : Term) (b : ℕ) → InBucket t b → bucket_of t ≡ b
unfolding bucket_of
one-bucket t b i =
    let p : ℕ → Bool = λ k. not_after t (upper_end k) in
    let there : Stops p 0 18 (b - 1) = record {
      from = omega arith;
      to = omega (arith, i.to);
      before = λ j _ l. i.after j (omega (arith, i.from));
      holds = λ l. i.not_past (b - 1) (omega (arith, i.from)) (omega arith);
    } in
    ap suc (stops-once (first_stops p 0 18) there) ∙ omega (arith, i.from)
