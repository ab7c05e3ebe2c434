-- How many coupons fall into a bucket, by division on its ends; and what coupons and one amount due come to.
use Prim.Native.Nat.{ℕ, zero, suc, ◌+◌, ◌*◌, ◌-◌, ◌/◌, ◌≤◌, ◌<◌, min}
use mathlib.Core.Bool.{Bool, true, false, not, ◌&&◌, ◌||◌}
use mathlib.Core.List.{List, ◌∷◌}
use mathlib.Core.Logic.{◌⊎◌, inl, inr, ⊎_elim}
use mathlib.Core.Path.{◌≡◌, refl, sym, ap, ap₂, ◌∙◌}
use native.Mathlib.Decide.{ℕ_discrete}
use native.Mathlib.Nat.{le_trans, mul-le-mul, mul-le-mul_left, mul-le-mul_right, mul-div-le, le-div_iff_mul-le, div-lt_iff_lt-mul}
use native.Mathlib.Omega.{arith}
use lib.ListN.{length, get_or, set}
use borrow.Author.Tests.{not-true, eqb-true, ltb-true, leb-true, leb-false, lt-ltb, le-ltb, le-leb, lt-leb, eq-eqb, ne_eqb}
use Rattle.std.specs.Prelude.{if◌then◌else◌}
use Rattle.laws.specs.Tests.{◌is◌, ◌up_to◌, ◌below◌, all, first}
use Rattle.laws.specs.Sums.{sum}
use Rattle.laws.specs.Lists.{tabulate}
use Rattle.laws.proofs.Lists.{tabulate-length, tabulate-at, tabulate-ext}
use Rattle.laws.proofs.Sums.{sum-ext, sum-upto}
use Rattle.laws.proofs.Tests.{and-true, or-true, all-at, first-ext, lt-or-ge}
use Rattle.paper.specs.Scales.{billion}
use Rattle.paper.specs.Ladder.{buckets, Term, in_months, later, not_after, upper_ends, upper_end, bucket_of}
use Rattle.paper.specs.Flow.{due, coupons_due}
use Rattle.paper.proofs.Buckets.{in-bucket}
use Rattle.paper.proofs.Magnitudes.{coupons-add-up, coupons-and-due}
use Rattle.posting.proofs.Loops.{raised}
use Rattle.due.specs.declared.schedule.Schedule.{Schedule}
use Rattle.due.specs.Schedules.{start_of, scheduled, Regular, month_ends, month_seen}

-- the months by which the first k buckets end
abbrev pub ends : ℕ → ℕ
ends k = get_or (0 ∷ month_ends) k 0

-- bucket k + 1 has the months past the end before it up to its own
abbrev has : ℕ → ℕ → Bool
has k m = ends k below m && m up_to ends (suc k)

same : Bool → Bool → Bool
same true b = b
same false b = not b

abbrev months : ℕ → ℕ → Bool
months bucket m = all (λ k. same (bucket is suc k) (has k m)) 0 19

tested : all (λ m. months (bucket_of (in_months m)) m) 1 601 ≡ true
unfolding month_ends same all bucket_of first not_after upper_ends
tested = refl

same-is : (a b : Bool) → same a b ≡ true → a ≡ b
unfolding same
same-is true b e = sym e
same-is false b e = sym (not-true b e)

in-months : (m k : ℕ) → 1 ≤ m → m ≤ 601 → k < 19 → (bucket_of (in_months m) is suc k) ≡ has k m
in-months m k from to l =
    let row : months (bucket_of (in_months m)) m ≡ true = all-at (λ n. months (bucket_of (in_months n)) n) 1 601 tested m from (omega arith) in
    same-is _ _ (all-at (λ i. same (bucket_of (in_months m) is suc i) (has i m)) 0 19 row k (omega arith) l)

-- ---- a term with days: a month later at an end in whole months

-- an end is in whole months, or before the first
whole : all (λ k. (upper_end k).days is 0 || (upper_end k).months is 0) 0 18 ≡ true
unfolding all upper_ends
whole = refl

module _ (m d : ℕ) (past : 1 ≤ m) (some : 1 ≤ d) (u : Term) where
  with-days : (u.days is 0 || u.months is 0) ≡ true → not_after (record { months = m; days = d }) u ≡ not_after (in_months (suc m)) u
  unfolding not_after
  with-days e = ⊎_elim early late (lt-or-ge m u.months)
    where
      end : 0 < u.months → u.days ≡ 0
      end o = ⊎_elim (eqb-true u.days 0) (λ t. absurd (omega (arith, eqb-true u.months 0 t))) (or-true (u.days is 0) (u.months is 0) e)

      early : m < u.months → (m below u.months || (m is u.months && d up_to u.days)) ≡ (suc m below u.months || (suc m is u.months && 0 up_to u.days))
      early o = rw (lt-ltb m u.months o) (⊎_elim
          (λ (next : suc m < u.months). rw (lt-ltb (suc m) u.months next))
          (λ (here : u.months ≤ suc m). rw (le-ltb (suc m) u.months here, eq-eqb (suc m) u.months (omega arith), le-leb 0 u.days (omega arith)))
          (lt-or-ge (suc m) u.months))

      late : u.months ≤ m → (m below u.months || (m is u.months && d up_to u.days)) ≡ (suc m below u.months || (suc m is u.months && 0 up_to u.days))
      late o =
          rw (le-ltb m u.months o, le-ltb (suc m) u.months (omega arith), ne_eqb (suc m) u.months (λ t. omega arith)) (by (ℕ_discrete m u.months))
        where
          by : Dec (m ≡ u.months) → (m is u.months && d up_to u.days) ≡ false
          by (yes t) = rw (eq-eqb m u.months t, lt-leb d u.days (omega (arith, end (omega arith))))
          by (no n) = rw (ne_eqb m u.months n)

seen-bucket : (t : Term) → 1 ≤ t.months → bucket_of t ≡ bucket_of (in_months (month_seen t))
unfolding bucket_of month_seen
seen-bucket t past = by (ℕ_discrete t.days 0)
  where
    by : Dec (t.days ≡ 0) → bucket_of t ≡ bucket_of (in_months (if t.days is 0 then t.months else suc t.months))
    by (yes e) = rw (eq-eqb t.days 0 e) (ap (λ (d : ℕ). bucket_of (record { months = t.months; days = d })) e)
    by (no n) = rw (ne_eqb t.days 0 n) (ap suc (first-ext _ _ 0 18 (λ k _ l.
        with-days t.months t.days past (omega arith) (upper_end k) (all-at (λ i. (upper_end i).days is 0 || (upper_end i).months is 0) 0 18 whole k (omega arith) l))))

seen-later : (t : Term) (m : ℕ) → month_seen (later m t) ≡ month_seen t + m
unfolding month_seen
seen-later t m = by (t.days is 0)
  where
    by : (b : Bool) → (if b then t.months + m else suc (t.months + m)) ≡ (if b then t.months else suc t.months) + m
    by true = refl
    by false = omega arith

seen_most : (t : Term) → month_seen t ≤ suc t.months
unfolding month_seen
seen_most t = by (t.days is 0)
  where
    by : (b : Bool) → (if b then t.months else suc t.months) ≤ suc t.months
    by true = omega arith
    by false = omega arith

-- how many of the first n coupons fall past the month s up to the month e
abbrev between : (period s e n : ℕ) → ℕ
between period s e n = min n (e / period) - min n (s / period)

-- one coupon more: it falls there or not
module _ (period s e : ℕ) (some : 0 < period) (order : s ≤ e) (n : ℕ) where
  divided : s / period ≤ e / period
  divided = (le-div_iff_mul-le some).1 (le_trans (omega (arith, mul-div-le s period)) order)

  due-there : (s below period * suc n && period * suc n up_to e) ≡ true → between period s e (suc n) ≡ suc (between period s e n)
  due-there t =
      let both = and-true (s below period * suc n) (period * suc n up_to e) t in
      let after : s / period < suc n = (div-lt_iff_lt-mul some).1 (omega (arith, ltb-true s (period * suc n) both.0)) in
      let by : suc n ≤ e / period = (le-div_iff_mul-le some).1 (omega (arith, leb-true (period * suc n) e both.1)) in
      omega arith

  not_there : (s below period * suc n && period * suc n up_to e) ≡ false → between period s e (suc n) ≡ between period s e n
  not_there t = ⊎_elim late early (lt-or-ge s (period * suc n))
    where
      early : period * suc n ≤ s → between period s e (suc n) ≡ between period s e n
      early h =
          let by : suc n ≤ s / period = (le-div_iff_mul-le some).1 (omega arith) in
          omega (arith, divided)

      late : s < period * suc n → between period s e (suc n) ≡ between period s e n
      late h =
          let out : (period * suc n up_to e) ≡ false = ap (λ (b : Bool). b && period * suc n up_to e) (sym (lt-ltb s (period * suc n) h)) ∙ t in
          let past : e / period < suc n = (div-lt_iff_lt-mul some).1 (omega (arith, leb-false (period * suc n) e out)) in
          omega (arith, divided)

counted : (period coupon s e : ℕ) → 0 < period → s ≤ e → (n : ℕ)
    → sum (λ j. if s below period * suc j && period * suc j up_to e then coupon else 0) n ≡ between period s e n * coupon
unfolding sum
counted period coupon s e p h zero = let none : between period s e 0 ≡ 0 = omega arith in rw none (omega arith)
counted period coupon s e p h (suc n) =
    ap (λ (x : ℕ). x + (if s below period * suc n && period * suc n up_to e then coupon else 0)) (counted period coupon s e p h n)
    ∙ by (s below period * suc n && period * suc n up_to e) refl
  where
    by : (b : Bool) → (s below period * suc n && period * suc n up_to e) ≡ b → between period s e n * coupon + (if b then coupon else 0) ≡ between period s e (suc n) * coupon
    by true t = rw (due-there period s e p h n t) (omega arith)
    by false t = rw (not_there period s e p h n t) (omega arith)

-- ---- each bucket's coupons

ordered : all (λ k. ends k up_to ends (suc k)) 0 19 ≡ true
unfolding month_ends all
ordered = refl

-- months are counted from the start
module _ (start k : ℕ) (l : k < 19) where
  in_order : ends k - start ≤ ends (suc k) - start
  in_order = omega (arith, leb-true (ends k) (ends (suc k)) (all-at (λ i. ends i up_to ends (suc i)) 0 19 ordered k (omega arith) l))

  from_start : (x : ℕ) → 1 ≤ x → has k (start + x) ≡ (ends k - start below x && x up_to ends (suc k) - start)
  from_start x some = ap₂ ◌&&◌ (after (lt-or-ge (ends k) (start + x))) (upto (lt-or-ge (ends (suc k)) (start + x)))
    where
      after : (ends k < start + x) ⊎ (start + x ≤ ends k) → (ends k below start + x) ≡ (ends k - start below x)
      after (inl o) = lt-ltb (ends k) (start + x) o ∙ sym (lt-ltb (ends k - start) x (omega arith))
      after (inr o) = le-ltb (ends k) (start + x) o ∙ sym (le-ltb (ends k - start) x (omega arith))

      upto : (ends (suc k) < start + x) ⊎ (start + x ≤ ends (suc k)) → (start + x up_to ends (suc k)) ≡ (x up_to ends (suc k) - start)
      upto (inl o) = lt-leb (start + x) (ends (suc k)) o ∙ sym (lt-leb x (ends (suc k) - start) (omega arith))
      upto (inr o) = le-leb (start + x) (ends (suc k)) o ∙ sym (le-leb x (ends (suc k) - start) (omega arith))

-- coupons after a start of which the last is at most in month 600
module _ (start : Term) (period count : ℕ) (some : 1 ≤ period) (last : start.months + period * count ≤ 600) where
  -- so many are due by a month
  abbrev pub due_by : ℕ → ℕ
  due_by month = min count ((month - month_seen start) / period)

  coupon-in : (k : ℕ) → k < 19 → (j : ℕ) → j < count
      → (bucket_of (later (period * suc j) start) is suc k) ≡ (ends k - month_seen start below period * suc j && period * suc j up_to ends (suc k) - month_seen start)
  coupon-in k l j o =
      let x = period * suc j in
      let this : x ≤ period * count = mul-le-mul_left period o in
      let seen = seen-later start x in
      ap (λ (b : ℕ). b is suc k) (seen-bucket (later x start) (omega arith) ∙ ap (λ (m : ℕ). bucket_of (in_months m)) seen)
      ∙ in-months (month_seen start + x) k (omega arith) (omega (arith, seen_most start)) l
      ∙ from_start (month_seen start) k l x (omega arith)

  pub coupons-in : (coupon k : ℕ) → k < 19 → coupons_due start period count coupon k ≡ (due_by (ends (suc k)) - due_by (ends k)) * coupon
  unfolding coupons_due due
  coupons-in coupon k l =
      sum-ext _ _ count (λ j o. ap (λ (b : Bool). if b then coupon else 0) (coupon-in k l j o))
      ∙ counted period coupon (ends k - month_seen start) (ends (suc k) - month_seen start) some (in_order (month_seen start) k l) count

  -- the coupons due by the end before are due by a bucket's own
  pub due-ordered : (k : ℕ) → k < 19 → due_by (ends k) ≤ due_by (ends (suc k))
  due-ordered k l =
      omega (arith, divided period (ends k - month_seen start) (ends (suc k) - month_seen start) some (in_order (month_seen start) k l) count)

-- ---- the whole schedule: coupons, and an amount due

-- an amount joins the row in its bucket
pub amount-row : (f : ℕ → ℕ) (row : List ℕ) (term : Term) (bucket amount : ℕ) → row ≡ tabulate f buckets → bucket ≡ bucket_of term
    → set row (bucket - 1) (get_or row (bucket - 1) 0 + amount) ≡ tabulate (λ k. f k + due term amount k) buckets
unfolding due
amount-row f row term bucket amount e b =
    let there = in-bucket term in
    raised f row buckets (bucket - 1) amount (ap length e ∙ tabulate-length f buckets) (λ k o. ap (λ (l : List ℕ). get_or l k 0) e ∙ tabulate-at f buckets k 0 o)
    (omega (arith, there.from, there.to))
    ∙ tabulate-ext _ _ buckets (λ k o. ap (λ (t : Bool). f k + (if t then amount else 0)) (test k there.from))
  where
    test : (k : ℕ) → 1 ≤ bucket_of term → (k is bucket - 1) ≡ (bucket_of term is suc k)
    test k from = by (ℕ_discrete k (bucket - 1))
      where
        by : Dec (k ≡ bucket - 1) → (k is bucket - 1) ≡ (bucket_of term is suc k)
        by (yes here) = eq-eqb k (bucket - 1) here ∙ sym (eq-eqb (bucket_of term) (suc k) (omega arith))
        by (no other) = ne_eqb k (bucket - 1) other ∙ sym (ne_eqb (bucket_of term) (suc k) (λ same. other (omega arith)))

module _ (s : Schedule) where
  -- at most 600 coupons, so their sum fits
  pub coupons-most : Regular s → s.count * s.coupon.0 ≤ 600 * billion
  coupons-most h =
      let few : s.count ≤ 600 = omega (arith, mul-le-mul_right s.count h.some, h.last) in
      mul-le-mul few h.small

  pub coupons-small : (k : ℕ) → k < buckets → coupons_due (start_of s) s.period s.count s.coupon.0 k ≤ s.count * s.coupon.0
  coupons-small k l =
      omega (arith, sum-upto (coupons_due (start_of s) s.period s.count s.coupon.0) k buckets l, coupons-add-up (start_of s) s.period s.count s.coupon.0)

  pub scheduled-sum : (term : Term) (amount : ℕ) → sum (scheduled s term amount) buckets ≡ s.count * s.coupon.0 + amount
  scheduled-sum term amount = coupons-and-due (start_of s) s.period s.count s.coupon.0 term amount

  pub scheduled-small : (term : Term) (amount k : ℕ) → k < buckets → scheduled s term amount k ≤ s.count * s.coupon.0 + amount
  scheduled-small term amount k l = omega (arith, sum-upto (scheduled s term amount) k buckets l, scheduled-sum term amount)
