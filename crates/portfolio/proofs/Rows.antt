-- Flows in rows of nineteen, and the row and the rate that each scenario has.
use Prim.Native.Nat.{ℕ, ◌+◌, ◌*◌, ◌/◌, ◌%◌, ◌≤◌, ◌<◌, min}
use mathlib.Core.Bool.{Bool, true, ◌&&◌}
use mathlib.Core.List.{List}
use mathlib.Core.Path.{◌≡◌, sym, ap, ap₂, ◌∙◌}
use native.Mathlib.Omega.{arith}
use lib.IntN.{ℤ, pos}
use lib.ListN.{length, get_or}
use borrow.Author.Tests.{ltb-true, eqb-true}
use Rattle.laws.specs.Tests.{◌is◌, ◌below◌, all}
use Rattle.laws.specs.Sums.{sum, sum_of}
use Rattle.laws.specs.Lists.{tabulate, section}
use Rattle.laws.proofs.Tests.{and-true, all-at}
use Rattle.laws.proofs.Sums.{sum-ext}
use Rattle.laws.proofs.Totals.{sum-get_or}
use Rattle.laws.proofs.Sections.{length-section, section-place, section-all}
use Rattle.laws.proofs.Filling.{by_row}
use Rattle.paper.specs.Ladder.{buckets}
use Rattle.paper.specs.Refusals.{Checked, accepted}
use Rattle.paper.specs.Records.{Record}
use Rattle.paper.specs.Behaviour.{whole_rate, behavioural_rate}
use Rattle.paper.specs.Flow.{scenarios, sided, flow, magnitude}
use Rattle.posting.specs.Parts.{Taken}
use Rattle.posting.specs.Parts.{AtMost, FlowParts, Entered, row_flow, row_sum}
use Rattle.behaviour.specs.Rows.{three_multipliers}
use Rattle.posting.proofs.Loops.{row-long, row_at}
use Rattle.posting.specs.Answers.{FlowsTaken}
use Rattle.posting.proofs.Admission.{entered-taken}

-- by the place in the rows of the three rates
abbrev pub by_place : (ℕ → ℕ → ℕ) → ℕ → ℕ
by_place row = by_row 0 row buckets 57

-- ---- rows of which each scenario has one, once filled: whose flows they are

module _ (r : Record) {read : Checked Record} (accepts : read ≡ accepted r) (side : ℕ) {section section' : List ℤ} {sizes sizes' l : List ℕ} {answer : Taken} (parts : FlowParts section sizes) where
  pub rows_taken : (row : ℕ → ℕ → ℕ) (which sums : List ℕ) → l ≡ tabulate (by_place row) 57 → ((i : ℕ) → i < scenarios → get_or which i 0 < 3)
      → ((i k : ℕ) → i < scenarios → sided side (pos (row (get_or which i 0) k)) ≡ flow r i k) → ((i : ℕ) → i < scenarios → row_sum sums which i ≡ magnitude r i)
      → Entered (row_flow l which) side (row_sum sums which) section sizes answer section' sizes' → FlowsTaken read section sizes answer section' sizes'
  rows_taken row which sums e within flows-are sized =
      entered-taken r accepts _ side _ parts (λ j o. here j (within (j / buckets) (omega arith)) ∙ flows-are (j / buckets) (j % buckets) (omega arith)) sized
    where
      here : (j : ℕ) → get_or which (j / buckets) 0 < 3 → sided side (pos (row_flow l which j)) ≡ sided side (pos (row (get_or which (j / buckets) 0) (j % buckets)))
      here j o =
          let n = get_or which (j / buckets) 0 in
          let at : (19 * n + j % 19) / 19 ≡ n = omega arith in
          let bucket : (19 * n + j % 19) % 19 ≡ j % 19 = omega arith in
          ap (λ (x : ℕ). sided side (pos x)) (row_at (by_place row) 57 e (19 * n + j % 19) (omega arith) ∙ ap₂ row at bucket)

-- the first row alone, as it is lent to be summed
module _ (row : ℕ → ℕ → ℕ) {l : List ℕ} (e : l ≡ tabulate (by_place row) 57) where
  first-long : length (section 0 19 l) ≡ 19
  first-long = length-section 0 19 l (rw (row-long (by_place row) 57 e) (omega arith))

  pub first-row : {b : ℕ} → AtMost b l → (length (section 0 19 l) ≡ 19) × AtMost b (section 0 19 l)
  first-row {b} small = (first-long, section-all (λ n. n ≤ b) 0 l (omega arith) small 0 19)

  pub first-sum : sum_of (section 0 19 l) ≡ sum (row 0) 19
  first-sum =
      sym (sum-get_or (section 0 19 l) 19 (rw first-long (omega arith)))
      ∙ sum-ext _ (row 0) 19 (λ k o.
      let first : k / 19 ≡ 0 = omega arith in
      let bucket : k % 19 ≡ k = omega arith in
      sym (section-place 0 19 l k k 0 o (omega arith)) ∙ row_at (by_place row) 57 e k (omega arith) ∙ ap₂ row first bucket)

-- ---- which of the three rates a scenario has: a table, tied to the paper's multipliers by one computed test

abbrev pub tied : List ℕ → List ℕ → Bool
tied which multipliers = all (λ i. get_or which i 0 below 3 && get_or three_multipliers (get_or which i 0) 0 is get_or multipliers i 0) 0 7

module _ (which multipliers : List ℕ) (t : tied which multipliers ≡ true) (i : ℕ) (l : i < 7) where
  both : (get_or which i 0 below 3 ≡ true) × ((get_or three_multipliers (get_or which i 0) 0 is get_or multipliers i 0) ≡ true)
  both = and-true _ _ (all-at (λ j. get_or which j 0 below 3 && get_or three_multipliers (get_or which j 0) 0 is get_or multipliers j 0) 0 7 t i (omega arith) l)

  pub tied-within : get_or which i 0 < 3
  tied-within = ltb-true _ _ both.0

  pub tied-rate : (share : ℕ) → behavioural_rate three_multipliers share (get_or which i 0) ≡ behavioural_rate multipliers share i
  unfolding behavioural_rate
  tied-rate share = ap (λ (m : ℕ). min (share * m) whole_rate) (eqb-true _ _ both.1)
