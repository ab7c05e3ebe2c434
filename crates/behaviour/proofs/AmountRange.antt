-- Nineteen amounts of a body: how many they are, and their range.
use Prim.Native.Nat.{ℕ, ◌+◌, ◌*◌, ◌≤◌, ◌<◌}
use mathlib.Core.List.{List, [], ◌∷◌}
use mathlib.Core.Logic.{⊎_elim}
use mathlib.Core.Path.{◌≡◌, refl, ap, ◌∙◌}
use native.Mathlib.Nat.{le_refl}
use native.Mathlib.Omega.{arith}
use lib.ListN.{length, get_or, get_or-eq_default}
use Rattle.std.specs.List as Added
use Rattle.std.proofs.lemmas.List.Sums.{sum_by-cons}
use Rattle.laws.specs.Sums.{total, sum_of}
use Rattle.laws.proofs.Lists.{tabulate-length}
use Rattle.laws.proofs.Sums.{sum-most}
use Rattle.laws.proofs.Tests.{lt-or-ge}
use Rattle.laws.proofs.Totals.{sum-get_or}
use Rattle.paper.specs.Scales.{billion}
use Rattle.paper.specs.Ladder.{buckets}
use Rattle.paper.specs.Sound.{Amounts}
use Rattle.fields.specs.Answers.{amounts_from}
use Rattle.posting.specs.Parts.{AtMost, trillion}

pub amounts-few : (body : List ℕ) (from : ℕ) → length (amounts_from body from) ≤ buckets
amounts-few body from = rw (tabulate-length _ buckets) (le_refl buckets)

pub amounts-small : {amounts : List ℕ} → Amounts amounts → AtMost billion amounts
amounts-small {amounts} h j =
    ⊎_elim (λ (l : j < buckets). (h.at 0 j l).to)
    (λ (l : buckets ≤ j). rw (get_or-eq_default amounts 0 {n = j} (omega (arith, h.long))) (omega arith))
    (lt-or-ge j buckets)

-- ---- nineteen numbers added: as the library adds them, and how few that is

pub added_is : (row : List ℕ) → Added.sum row ≡ sum_of row
unfolding total
added_is [] = refl
added_is (x ∷ row) = sum_by-cons (λ (n : ℕ). n) x row ∙ ap (λ (n : ℕ). x + n) (added_is row)

pub added-few : (row : List ℕ) → length row ≡ buckets → AtMost trillion row → Added.sum row ≤ buckets * trillion
added-few row long small =
    omega (arith, added_is row, sum-get_or row buckets (rw long (le_refl buckets)), sum-most (λ j. get_or row j 0) buckets trillion (λ j _. small j))
