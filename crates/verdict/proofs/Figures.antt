-- The figures of a list, six for each currency: reading them, and what their sums come to at most.
use Prim.Native.Nat.{ℕ, suc, ◌+◌, ◌*◌, ◌-◌, ◌/◌, ◌%◌, ◌≤◌, ◌<◌}
use mathlib.Core.Bool.{Bool, true, false}
use mathlib.Core.List.{List}
use mathlib.Core.Logic.{⊎_elim}
use mathlib.Core.Path.{◌≡◌, sym, ap, ◌∙◌}
use native.Mathlib.Omega.{arith}
use lib.IntN.{ℤ, pos, nat_abs}
use lib.ListN.{length, get_or}
use Rattle.laws.specs.Integers.{up}
use Rattle.laws.specs.Sums.{sum}
use Rattle.std.specs.Prelude.{if◌then◌else◌}
use Rattle.laws.specs.Tests.{◌is◌, first}
use Rattle.laws.proofs.Integers.{abs_is}
use Rattle.laws.proofs.Sums.{sum-most, sum-rest, greatest-least}
use Rattle.laws.proofs.Tests.{lt-or-ge, first_to}
use Rattle.laws.proofs.Lists.{tabulate-length, tabulate-at, tabulate-past}
use Rattle.paper.specs.Records.{currencies}
use Rattle.paper.specs.Flow.{scenarios, shocked}
use Rattle.paper.specs.Verdict.{scenario_sum, measure, worst, changes_of}
use Rattle.arrays.specs.Rooms.{listed}
use Rattle.change.specs.Figures.{most_of_a_change}
use Rattle.verdict.specs.Figures.{most_of_a_sum, Figures}

-- currency c + 1, as a loop from 0 has it
pub listed-at : (list : List ℤ) (c i : ℕ) → listed list (suc c) i ≡ get_or list (shocked * c + (i - 1)) (pos 0)
unfolding listed
listed-at list c i =
    let place : shocked * (suc c - 1) + (i - 1) ≡ shocked * c + (i - 1) = omega arith in
    ap (λ (j : ℕ). get_or list j (pos 0)) place

module _ {last : ℕ} {list : List ℤ} (f : Figures last list) (i : ℕ) where
  pub loss-most : (c : ℕ) → up (listed list c i) ≤ most_of_a_change
  unfolding listed
  loss-most c = let j = shocked * (c - 1) + (i - 1) in omega (arith, abs_is (get_or list j (pos 0)), f.small j)

  pub losses-most : (n : ℕ) → n ≤ currencies → sum (λ c. up (listed list (suc c) i)) n ≤ most_of_a_sum
  losses-most n h = omega (arith, sum-most (λ c. up (listed list (suc c) i)) n most_of_a_change (λ c l. loss-most (suc c)))

  -- the last currency's loss is the last
  pub losses-all : sum (λ c. up (listed list (suc c) i)) last ≡ scenario_sum currencies (listed list) i
  unfolding scenario_sum listed
  losses-all = sym (sum-rest (λ c. up (listed list (suc c) i)) last currencies f.most (λ c l _. ap up (f.nil _ (omega arith))))

  pub scenario-sum-most : scenario_sum currencies (listed list) i ≤ most_of_a_sum
  unfolding scenario_sum
  scenario-sum-most = losses-most currencies (omega arith)

pub measure-most : {last : ℕ} {list : List ℤ} → Figures last list → measure currencies (listed list) ≤ most_of_a_sum
unfolding measure
measure-most f = greatest-least _ shocked most_of_a_sum (λ i p l. scenario-sum-most f i)

pub worst-most : (changes : ℕ → ℕ → ℤ) → worst currencies changes ≤ scenarios
unfolding worst
worst-most changes = by (measure currencies changes is 0)
  where
    by : (b : Bool) → (if b then 0 else first (λ i. scenario_sum currencies changes i is measure currencies changes) 1 shocked) ≤ scenarios
    by true = omega arith
    by false = first_to (λ i. scenario_sum currencies changes i is measure currencies changes) 1 shocked

-- ---- figures by currency and scenario

pub figures-long : (f : ℕ → ℕ → ℤ) → length (changes_of currencies f) ≡ shocked * currencies
unfolding changes_of
figures-long f = tabulate-length _ (shocked * currencies)

pub figures-of : (f : ℕ → ℕ → ℤ) (last : ℕ) → last ≤ currencies → ((c i : ℕ) → 1 ≤ c → c ≤ currencies → 1 ≤ i → i ≤ shocked → nat_abs (f c i) ≤ most_of_a_change)
    → ((c i : ℕ) → last < c → c ≤ currencies → 1 ≤ i → i ≤ shocked → f c i ≡ pos 0) → Figures last (changes_of currencies f)
unfolding changes_of
figures-of f last end most none = record {
  long = figures-long f;
  most = end;
  nil = λ j l. ⊎_elim (nil-inside j l) (tabulate-past at (shocked * currencies) j (pos 0)) (lt-or-ge j (shocked * currencies));
  small = λ j. ⊎_elim (inside j) (outside j) (lt-or-ge j (shocked * currencies));
}
  where
    at : ℕ → ℤ
    at j = f (suc (j / shocked)) (suc (j % shocked))

    inside : (j : ℕ) → j < shocked * currencies → nat_abs (get_or (changes_of currencies f) j (pos 0)) ≤ most_of_a_change
    inside j l =
        rw (tabulate-at at (shocked * currencies) j (pos 0) l) (most (suc (j / shocked)) (suc (j % shocked)) (omega arith) (omega arith) (omega arith) (omega arith))

    nil-inside : (j : ℕ) → shocked * last ≤ j → j < shocked * currencies → get_or (changes_of currencies f) j (pos 0) ≡ pos 0
    nil-inside j l o =
        tabulate-at at (shocked * currencies) j (pos 0) o ∙ none (suc (j / shocked)) (suc (j % shocked)) (omega arith) (omega arith) (omega arith) (omega arith)

    outside : (j : ℕ) → shocked * currencies ≤ j → nat_abs (get_or (changes_of currencies f) j (pos 0)) ≤ most_of_a_change
    outside j l = rw (tabulate-past at (shocked * currencies) j (pos 0) l) (omega arith)
