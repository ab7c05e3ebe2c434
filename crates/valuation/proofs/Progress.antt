-- The changes and the tolerances of the first n currencies are in their lists: none, one currency more, all.
use Prim.Native.Nat.{ℕ, zero, suc, ◌+◌, ◌*◌, ◌≤◌, ◌<◌}
use mathlib.Core.Bool.{Bool, true, false}
use mathlib.Core.List.{List}
use mathlib.Core.Path.{◌≡◌, refl, ap}
use native.Mathlib.Omega.{arith}
use lib.IntN.{ℤ, pos, nat_abs}
use lib.ListN.{replicate}
use Rattle.paper.specs.Records.{currencies}
use Rattle.paper.specs.Flow.{shocked}
use Rattle.paper.specs.Ledger.{Totals}
use Rattle.paper.specs.Change.{change, tolerance}
use Rattle.paper.specs.Verdict.{scenario_sum, measure, total_tolerance, changes_of, report_from, report_of}
use Rattle.paper.proofs.ReportList.{change-at, measure-same, report-same}
use Rattle.arrays.specs.Rooms.{listed}
use Rattle.paper.proofs.EmptyCurrency.{nothing-change, nothing-tolerance}
use Rattle.change.specs.Figures.{tolerances, with_figures, most_of_a_change}
use Rattle.change.proofs.Bounds.{change-most, tolerance-most}
use Rattle.valuation.specs.Bounds.{Nothing, Bounds}
use Rattle.verdict.specs.Figures.{Figures}
use Rattle.verdict.proofs.Figures.{figures-of}
use Rattle.valuation.proofs.Currencies.{UpTo, figures-none, figures-more, figures-skip, figures-all}

-- a currency in which there is nothing has no change and no tolerance
module _ {t : Totals} {c : ℕ} (n : Nothing t c) (i : ℕ) (p : 1 ≤ i) (l : i ≤ shocked) where
  nil-change : change t c i ≡ pos 0
  nil-change = nothing-change t c i (λ k. n.flows 0 k (omega arith)) (λ k. n.flows i k (omega arith)) (n.add_ons i p l)

  nil-tolerance : tolerance t c i ≡ 0
  nil-tolerance = nothing-tolerance t c i (λ k. n.flows 0 k (omega arith)) (λ k. n.flows i k (omega arith))

pub record Done (t : Totals) (n : ℕ) (first second : List ℤ) : Type 0 where
  pub changes-in : UpTo (change t) n first
  pub tolerances-in : UpTo (tolerances t) n second

pub done_none : (t : Totals) → Done t 0 (replicate (shocked * currencies) (pos 0)) (replicate (shocked * currencies) (pos 0))
done_none t = record { changes-in = figures-none (change t); tolerances-in = figures-none (tolerances t) }

module _ {t : Totals} {n : ℕ} {first second : List ℤ} (h : n < currencies) (d : Done t n first second) where
  pub done_more : {first' second' : List ℤ} → first' ≡ with_figures (change t) n first → second' ≡ with_figures (tolerances t) n second
      → Done t (n + 1) first' second'
  done_more e g = rw (e, g) (record {
    changes-in = figures-more (change t) h d.changes-in;
    tolerances-in = figures-more (tolerances t) h d.tolerances-in;
  })

  pub done-skip : Nothing t (n + 1) → Done t (n + 1) first second
  done-skip none = record {
    changes-in = figures-skip (change t) h d.changes-in (nil-change none);
    tolerances-in = figures-skip (tolerances t) h d.tolerances-in (λ i p l. ap pos (nil-tolerance none i p l));
  }

-- past the last currency with a curve there is nothing
pub done-rest : (d : ℕ) {t : Totals} {n : ℕ} {first second : List ℤ} → n + d ≡ currencies → ((c : ℕ) → n < c → c ≤ currencies → Nothing t c) → Done t n first second → Done t currencies first second
done-rest zero {t} {n} {first} {second} e none u = let end : n ≡ currencies = omega arith in rw end at u
done-rest (suc d) {t} {n} e none u = done-rest d {n = n + 1} (omega arith) (λ c l h. none c (omega arith) h) (done-skip (omega arith) u (none (n + 1) (omega arith) (omega arith)))

-- ---- all of them

as-listed : (f : ℕ → ℕ → ℤ) {list : List ℤ} → list ≡ changes_of currencies f → (c i : ℕ) → 1 ≤ c → c ≤ currencies → 1 ≤ i → i ≤ shocked → listed list c i ≡ f c i
unfolding listed
as-listed f e c i l h p m = rw e (change-at currencies f c i l h p m)

module _ (t : Totals) (curved : ℕ → Bool) (b : Bounds t curved) (last : ℕ) (end : last ≤ currencies) (past : (c : ℕ) → last < c → c ≤ currencies → curved c ≡ false) where
  changes-small : (c i : ℕ) → 1 ≤ c → c ≤ currencies → 1 ≤ i → i ≤ shocked → nat_abs (change t c i) ≤ most_of_a_change
  changes-small c i l h p m = by (curved c) refl
    where
      by : (v : Bool) → curved c ≡ v → nat_abs (change t c i) ≤ most_of_a_change
      by true e = change-most t c (b.bounded c l h e) i p m
      by false e = rw (nil-change (b.nothing c l h e) i p m) (omega arith)

  tolerances-small : (c i : ℕ) → 1 ≤ c → c ≤ currencies → 1 ≤ i → i ≤ shocked → nat_abs (tolerances t c i) ≤ most_of_a_change
  tolerances-small c i l h p m = by (curved c) refl
    where
      by : (v : Bool) → curved c ≡ v → tolerance t c i ≤ most_of_a_change
      by true e = let rows = (b.bounded c l h e).rows in omega (arith, tolerance-most t c i (rows 0 (omega arith)).net (rows i (omega arith)).net)
      by false e = omega (arith, nil-tolerance (b.nothing c l h e) i p m)

  module _ {first second : List ℤ} (d : Done t currencies first second) where
    all-changes : first ≡ changes_of currencies (change t)
    all-changes = figures-all (change t) d.changes-in

    all-tolerances : second ≡ changes_of currencies (tolerances t)
    all-tolerances = figures-all (tolerances t) d.tolerances-in

    pub change-figures : Figures last first
    change-figures = rw all-changes (figures-of (change t) last end changes-small (λ c i l h. nil-change (b.nothing c (omega arith) h (past c l h)) i))

    pub tolerance-figures : Figures last second
    tolerance-figures =
        rw all-tolerances (figures-of (tolerances t) last end tolerances-small (λ c i l h p m. ap pos (nil-tolerance (b.nothing c (omega arith) h (past c l h)) i p m)))

    total-done : measure currencies (listed second) ≡ total_tolerance currencies (tolerance t)
    unfolding measure scenario_sum total_tolerance
    total-done = measure-same currencies (listed second) (tolerances t) (as-listed (tolerances t) all-tolerances)

    pub report-done : (T : ℕ) → report_from currencies (listed first) (measure currencies (listed second)) T ≡ report_of currencies t T
    unfolding report_of
    report-done T = rw total-done (report-same currencies (listed first) (change t) (as-listed (change t) all-changes) _ T)
