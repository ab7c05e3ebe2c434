-- The report's list of changes says what the changes by currency and scenario say, and a report depends on nothing else of them.
use Prim.Native.Nat.{ℕ, suc, ◌*◌, ◌/◌, ◌%◌, ◌≤◌}
use mathlib.Core.List.{List}
use mathlib.Core.Path.{◌≡◌, sym, ap, ap₂, ◌∙◌}
use native.Mathlib.Omega.{arith}
use lib.IntN.{ℤ, pos}
use lib.ListN.{get_or}
use Rattle.std.specs.Prelude.{if◌then◌else◌}
use Rattle.laws.specs.Tests.{◌is◌}
use Rattle.laws.specs.Integers.{up}
use Rattle.laws.specs.Lists.{tabulate_from}
use Rattle.laws.proofs.Tests.{first-ext}
use Rattle.laws.proofs.Sums.{sum-ext, greatest-ext}
use Rattle.laws.proofs.Lists.{tabulate-at, tabulate-ext, tabulate_from-ext}
use Rattle.paper.specs.Verdict.{scenario_sum, measure, worst, changes_of, change_at, report_from}

pub change-at : (top : ℕ) (changes : ℕ → ℕ → ℤ) (c i : ℕ) → 1 ≤ c → c ≤ top → 1 ≤ i → i ≤ 6 → get_or (changes_of top changes) (change_at c i) (pos 0) ≡ changes c i
unfolding changes_of
change-at top changes c i c1 most i1 i6 =
    let j = change_at c i in
    let currency : suc (j / 6) ≡ c = omega arith in
    let scenario : suc (j % 6) ≡ i = omega arith in
    tabulate-at (λ m. changes (suc (m / 6)) (suc (m % 6))) (6 * top) j (pos 0) (omega arith) ∙ ap₂ changes currency scenario

-- the sums decide the measure and the worst, over however many currencies each was taken
module _ (a b : ℕ) (f g : ℕ → ℕ → ℤ) (same : (i : ℕ) → 1 ≤ i → i ≤ 6 → scenario_sum a f i ≡ scenario_sum b g i) where
  pub measure-by-sums : measure a f ≡ measure b g
  unfolding measure
  measure-by-sums = greatest-ext (scenario_sum a f) (scenario_sum b g) 6 same

  pub worst-by-sums : worst a f ≡ worst b g
  unfolding worst
  worst-by-sums =
      rw measure-by-sums
      (ap (λ (i : ℕ). if measure b g is 0 then 0 else i)
      (first-ext (λ i. scenario_sum a f i is measure b g) (λ i. scenario_sum b g i is measure b g) 1 6
      (λ i i1 i6. ap (λ (s : ℕ). s is measure b g) (same i i1 (omega arith)))))

  pub sums-listed : tabulate_from (λ i. pos (scenario_sum a f i)) 1 6 ≡ tabulate_from (λ i. pos (scenario_sum b g i)) 1 6
  sums-listed = tabulate_from-ext (λ i. pos (scenario_sum a f i)) (λ i. pos (scenario_sum b g i)) 1 6 (λ i i1 i6. ap pos (same i i1 (omega arith)))

-- changes that agree on all currencies and scenarios
module _ (top : ℕ) (f g : ℕ → ℕ → ℤ) (same : (c i : ℕ) → 1 ≤ c → c ≤ top → 1 ≤ i → i ≤ 6 → f c i ≡ g c i) where
  sum_same : (i : ℕ) → 1 ≤ i → i ≤ 6 → scenario_sum top f i ≡ scenario_sum top g i
  unfolding scenario_sum
  sum_same i i1 i6 = sum-ext (λ c. up (f (suc c) i)) (λ c. up (g (suc c) i)) top (λ c l. ap up (same (suc c) i (omega arith) l i1 i6))

  pub measure-same : measure top f ≡ measure top g
  measure-same = measure-by-sums top top f g sum_same

  changes-same : changes_of top f ≡ changes_of top g
  unfolding changes_of
  changes-same = tabulate-ext _ _ (6 * top) (λ j l. same (suc (j / 6)) (suc (j % 6)) (omega arith) (omega arith) (omega arith) (omega arith))

  pub report-same : (u T : ℕ) → report_from top f u T ≡ report_from top g u T
  unfolding report_from
  report-same u T = rw (measure-same, worst-by-sums top top f g sum_same, changes-same, sums-listed top top f g sum_same)

-- the same report, from the list of its changes
pub report-by-list : (top : ℕ) (changes : ℕ → ℕ → ℤ) (list : List ℤ) → changes_of top changes ≡ list
    → (u T : ℕ) → report_from top changes u T ≡ report_from top (λ c i. get_or list (change_at c i) (pos 0)) u T
report-by-list top changes list e =
    report-same top changes (λ c i. get_or list (change_at c i) (pos 0))
    (λ c i c1 most i1 i6. sym (change-at top changes c i c1 most i1 i6) ∙ ap (λ (l : List ℤ). get_or l (change_at c i) (pos 0)) e)
