-- Nineteen amounts in a row: what the loop over them knows, and what its answer tells.
use Prim.Native.Nat.{ℕ, ◌+◌, ◌*◌, ◌≤◌, ◌<◌}
use mathlib.Core.Bool.{false}
use mathlib.Core.List.{List}
use mathlib.Core.Path.{◌≡◌, refl, sym, ap, ◌∙◌}
use native.Mathlib.Omega.{arith}
use borrow.Author.Count.{below_more}
use borrow.Author.Tests.{ltb-false}
use Rattle.laws.specs.Sums.{sum, sum_of}
use Rattle.laws.proofs.Sums.{sum_more, sum-le}
use Rattle.laws.proofs.Totals.{sum-tabulate}
use Rattle.paper.specs.declared.Fault.{Fault}
use Rattle.paper.specs.declared.Refusal.TheVariants.{TooLarge}
use Rattle.paper.specs.Scales.{billion}
use Rattle.paper.specs.Ladder.{buckets}
use Rattle.std.specs.Prelude.{Ok, Err}
use Rattle.paper.specs.Refusals.{accepted, refused, result_of}
use Rattle.paper.specs.TurnedDown.{bad_amount}
use Rattle.paper.specs.Fields.{four, amount_at, each}
use Rattle.scales.specs.declared.Thousands.{Thousands}
use Rattle.fields.specs.Answers.{thousands, amounts_from, total}
use Rattle.fields.proofs.FieldLaws.{field-accepts, each-good, each-bad, each-accepts}
use Rattle.fields.proofs.Reading.{some-value}

all-limits : sum (λ k. billion) buckets ≡ billion * buckets
unfolding sum
all-limits = refl

module _ (body : List ℕ) (o : ℕ) where
  abbrev amount : ℕ → ℕ
  amount k = four body (o + 4 * k)

  -- before bucket k + 1
  pub record Summed (k s : ℕ) : Type 0 where
    pub good : (j : ℕ) → j < k → bad_amount (amount j) ≡ false
    pub total : s ≡ sum amount k
    pub small : s ≤ billion * k

  pub summed-none : Summed 0 0
  unfolding sum
  summed-none = record { good = λ j l. absurd (omega arith); total = refl; small = omega arith }

  -- one more amount, that was read
  pub summed-more : (k s x : ℕ) → Summed k s → amount_at body (o + 4 * k) ≡ accepted x → Summed (k + 1) (s + x)
  unfolding bad_amount
  summed-more k s x h e =
      let t = field-accepts bad_amount TooLarge (o + 4 * k) (amount k) x e in
      let limit : amount k ≤ billion = ltb-false _ _ t.1 in
      record {
        good = below_more _ _ h.good t.1;
        total = ap (λ (z : ℕ). s + z) (sym t.0) ∙ ap (λ (z : ℕ). z + amount k) h.total ∙ sym (sum_more amount k);
        small = omega (arith, h.small);
      }

  -- the loop left at bucket k + 1, or after the last
  pub summed-stops : (k s : ℕ) {f : Fault} → Summed k s → k < buckets → amount_at body (o + 4 * k) ≡ refused f.cause f.place
      → result_of total (each (amount_at body) buckets o) ≡ Err f
  summed-stops k s h l e = ap (result_of total) (each-bad bad_amount TooLarge (four body) o buckets k l e h.good)

  pub summed-ends : (s : ℕ) → Summed buckets s → result_of total (each (amount_at body) buckets o) ≡ Ok (thousands s)
  summed-ends s h =
      ap (result_of total) (each-good bad_amount TooLarge (four body) o buckets h.good) ∙ ap (λ (n : ℕ). Ok (thousands n)) (sum-tabulate amount buckets ∙ sym h.total)

  -- what an answer tells of the amounts
  pub record Amounting (s : ℕ) : Type 0 where
    pub list : each (amount_at body) buckets o ≡ accepted (amounts_from body o)
    pub total : s ≡ sum_of (amounts_from body o)
    pub small : s ≤ billion * buckets

  limited : ((k : ℕ) → k < buckets → bad_amount (amount k) ≡ false) → sum_of (amounts_from body o) ≤ billion * buckets
  unfolding bad_amount
  limited h = omega (arith, sum-tabulate amount buckets, sum-le amount (λ k. billion) buckets (λ k l. ltb-false _ _ (h k l)), all-limits)

  pub amounts-summed : {s : Thousands} → Ok s ≡ result_of total (each (amount_at body) buckets o) → Amounting s.0
  amounts-summed {s} e =
      let t = some-value total (each (amount_at body) buckets o) e in
      let u = each-accepts bad_amount TooLarge (four body) o buckets t.0 t.1 in
      let same : s.0 ≡ sum_of (amounts_from body o) = ap (λ (x : Thousands). x.0) t.2 ∙ ap sum_of u.0 in
      record { list = t.1 ∙ ap accepted u.0; total = same; small = omega (arith, limited u.1) }
