-- Plus or minus by the side, of an amount and of a row added to a scenario; one amount in a bucket of every scenario; a sum of two small integers fits.
use Prim.Native.Nat.{ℕ, suc, ◌+◌, ◌*◌, ◌-◌, ◌%◌, ◌≤◌, ◌<◌}
use mathlib.Core.Bool.{Bool, true, false}
use mathlib.Core.List.{List}
use mathlib.Core.Logic.{⊎_elim}
use mathlib.Core.Path.{◌≡◌, refl, sym, ap, ◌∙◌}
use native.Mathlib.Omega.{arith}
use lib.IntN.{ℤ, pos, neg_ℤ, nat_abs, ◌+ℤ◌, ◌-ℤ◌, +ℤ_idr}
use lib.ListN.{length, get_or, get_or-eq_default}
use mir.Syntax.{w64}
use mir.Val.{SFits}
use borrow.Author.Tests.{eq-eqb, ne_eqb}
use Rattle.std.specs.Prelude.{if◌then◌else◌}
use Rattle.laws.specs.Tests.{◌is◌}
use Rattle.laws.specs.Lists.{tabulate, section, splice}
use Rattle.laws.proofs.Lists.{tabulate-length, tabulate-at}
use Rattle.laws.proofs.Sections.{length-section}
use Rattle.laws.proofs.Tests.{lt-or-ge}
use Rattle.laws.proofs.Integers.{zero-sub, abs-add, abs-sub}
use Rattle.laws.proofs.Widths.{sfits-abs}
use Rattle.paper.specs.Ladder.{buckets}
use Rattle.paper.specs.Flow.{sided}
use Rattle.paper.proofs.Magnitudes.{abs-sided}
use Rattle.arrays.specs.Slots.{plus_ℤ}
use Rattle.posting.specs.Parts.{AtMost, AtMostℤ, column, trillion}
use Rattle.posting.proofs.Loops.{Joining, joining-long, part-all, joining-part}

pub sided-plus : (side : ℕ) (z : ℤ) → side ≡ 1 → sided side z ≡ z
unfolding sided
sided-plus side z e = rw (eq-eqb side 1 e)

pub sided-minus : (side : ℕ) (z : ℤ) → (side ≡ 1 → ⊥) → sided side z ≡ pos 0 -ℤ z
unfolding sided
sided-minus side z e = rw (ne_eqb side 1 e) (sym (zero-sub z))

pub sided-nil : (side : ℕ) → sided side (pos 0) ≡ pos 0
unfolding sided
sided-nil side = by (side is 1)
  where
    by : (b : Bool) → (if b then pos 0 else neg_ℤ (pos 0)) ≡ pos 0
    by true = refl
    by false = refl

-- a row of one side: its length, a flow of it, a bound of its flows

module _ (side : ℕ) (row : List ℕ) {flows : List ℤ} (e : flows ≡ tabulate (λ k. sided side (pos (get_or row k 0))) buckets) where
  sided-long : length flows ≡ buckets
  sided-long = ap length e ∙ tabulate-length (λ k. sided side (pos (get_or row k 0))) buckets

  sided-at : (k : ℕ) → k < buckets → get_or flows k (pos 0) ≡ sided side (pos (get_or row k 0))
  sided-at k o = ap (λ (l : List ℤ). get_or l k (pos 0)) e ∙ tabulate-at (λ k. sided side (pos (get_or row k 0))) buckets k (pos 0) o

  sided-small : AtMost trillion row → AtMostℤ trillion flows
  sided-small small k =
      ⊎_elim (λ (o : k < buckets). rw (sided-at k o, abs-sided side (pos (get_or row k 0))) (small k))
      (λ (o : buckets ≤ k). rw (get_or-eq_default flows (pos 0) {n = k} (rw sided-long o)) (omega arith))
      (lt-or-ge k buckets)

-- ---- sums that fit 64 bits

pub sum_fits : (a b : ℤ) → nat_abs a ≤ trillion → nat_abs b ≤ trillion → SFits w64 (a +ℤ b)
sum_fits a b h k = sfits-abs (a +ℤ b) (omega (arith, abs-add a b))

pub minus-fits : (z : ℤ) → nat_abs z ≤ trillion → SFits w64 (pos 0 -ℤ z)
minus-fits z h = sfits-abs (pos 0 -ℤ z) (omega (arith, abs-sub (pos 0) z))

-- ---- a scenario's turn: its cells, as they were, with a row of one side

module _ (side : ℕ) (row : List ℕ) {flows : List ℤ} (e : flows ≡ tabulate (λ k. sided side (pos (get_or row k 0))) buckets) (i : ℕ) {f : ℕ → ℤ} {l m : List ℤ}
    (room : 19 * i + 19 ≤ length l) (passed : Joining ◌+ℤ◌ (pos 0) (19 * i) f l m) where
  pub row_fits : AtMostℤ trillion l → AtMost trillion row
      → (length flows ≡ length (section (19 * i) 19 m)) × (AtMostℤ trillion (section (19 * i) 19 m) × AtMostℤ trillion flows)
  row_fits cells amounts = (
    sided-long side row e ∙ sym (length-section (19 * i) 19 m (rw (joining-long +ℤ_idr passed) room)),
    (part-all +ℤ_idr passed 19 room (λ z. nat_abs z ≤ trillion) (omega arith) cells, sided-small side row e amounts),
  )

  pub row-added : {part : List ℤ} → part ≡ plus_ℤ (section (19 * i) 19 m) (λ j. get_or flows j (pos 0))
      → ((k : ℕ) → k < 19 → sided side (pos (get_or row k 0)) ≡ f (19 * i + k)) → Joining ◌+ℤ◌ (pos 0) (19 * (i + 1)) f l (splice (19 * i) 19 m part)
  row-added added own =
      let next : 19 * (i + 1) ≡ 19 * i + 19 = omega arith in
      rw next (joining-part +ℤ_idr passed 19 room _ added (λ k o. sided-at side row e k o ∙ own k o))

-- ---- a column

module _ (bucket : ℕ) (amount : ℤ) (from : 1 ≤ bucket) (to : bucket ≤ buckets) (i : ℕ) where
  pub column-here : column bucket amount (19 * i + (bucket - 1)) ≡ amount
  unfolding column
  column-here = rw (eq-eqb bucket (suc ((19 * i + (bucket - 1)) % 19)) (omega arith))

  pub column-elsewhere : (j : ℕ) → 19 * i ≤ j → j < 19 * (i + 1) → (j ≡ 19 * i + (bucket - 1) → ⊥) → column bucket amount j ≡ pos 0
  unfolding column
  column-elsewhere j l h o = rw (ne_eqb bucket (suc (j % 19)) (λ e. o (omega arith)))
