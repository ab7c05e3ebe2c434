-- The arrays of the records kept, and the counts of their places, have the text that the paper prints behind their report.
use Prim.Native.Nat.{ℕ, suc, ◌-◌, ◌≤◌}
use mathlib.Core.List.{List, ◌++◌}
use mathlib.Core.Path.{◌≡◌, sym, ap, ◌∙◌}
use native.Mathlib.Omega.{arith}
use lib.IntN.{ℤ, pos}
use lib.ListN.{length}
use Rattle.paper.specs.Refusals.{accepted}
use Rattle.paper.specs.Records.{Record, currencies, kind_count}
use Rattle.paper.specs.Ledger.{totals, curved}
use Rattle.paper.proofs.Detail.{kept-once}
use Rattle.paper.specs.Detail.{places, among, taken, currency_text, closing_text}
use Rattle.arrays.specs.Masks.{curved_by, MaskOf}
use Rattle.arrays.specs.Arrays.{Arrays, arrays_of}
use Rattle.arrays.proofs.More.{by-at}
use Rattle.valuation.proofs.KeptRecords.{array_totals, same_kept}
use Rattle.text.proofs.CurvedLines.{lines-alike}
use Rattle.tally.specs.Counts.{counts_of}
use Rattle.load.specs.Walk.{kept_in}
use Rattle.load.specs.Load.{of_records, AllLoaded}
use Rattle.detail.specs.Behind.{count_by, behind_by}
use Rattle.detail.proofs.SameText.{text_same}
use Rattle.detailing.specs.Detailed.{behind_kept}

module _ (book : List ℕ) (kept : List Record) where
  abbrev counts : List ℤ
  counts = counts_of book (places book)

  counted : (c kind : ℕ) → 1 ≤ c → c ≤ currencies → 1 ≤ kind → kind ≤ kind_count → pos (taken book c kind) ≡ count_by counts c kind
  unfolding count_by counts_of
  counted c kind l h p m =
      let same : suc (kind - 1) ≡ kind = omega arith in
      sym (by-at (pos 0) kind_count (λ d j. pos (among book (places book) d (suc j))) c (kind - 1) (omega arith) l h (omega arith) ∙ ap (λ (k : ℕ). pos (taken book c k)) same)

  pub kept-text : (mask m T : ℕ) → MaskOf mask (curved kept)
      → behind_by (arrays_of kept).ledger (arrays_of kept).rates (arrays_of kept).add_ons counts mask (length (places book)) m T ≡ behind_kept book kept m T
  kept-text mask m T is =
      ap (λ (l : List ℕ). l ++ closing_text (length (places book)) m T)
      (lines-alike (curved_by mask) (curved kept) (currency_text (array_totals kept) (count_by counts)) (currency_text (totals kept) (λ c kind. pos (taken book c kind))) currencies is.has-it
      (λ c l h. sym (text_same (same_kept kept c l h) (λ d kind. pos (taken book d kind)) (count_by counts) (λ kind p n. counted c kind l h p n))))

-- of a book that is loaded: what the arrays, the masks and the tally hold
module _ (book : List ℕ) (a : Arrays) (holds : a ≡ arrays_of (kept_in book)) (mask : ℕ) (all : AllLoaded book mask) where
  pub loaded-text : (counts : List ℤ) (n m T : ℕ) (kept : List Record) → counts ≡ counts_of book (places book) → n ≡ length (places book) → of_records book ≡ accepted kept
      → behind_by a.ledger a.rates a.add_ons counts mask n m T ≡ behind_kept book kept m T
  loaded-text counts n m T kept e f g =
      let same : kept_in book ≡ kept = kept-once (kept_in book) kept (sym all.loaded ∙ g) in
      rw (e, f, holds) (kept-text book (kept_in book) mask m T all.curved-is) ∙ ap (λ (l : List Record). behind_kept book l m T) same
