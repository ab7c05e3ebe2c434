-- The input's outcome way out by way out, and that what is written of an answer is what the paper prints.
use Prim.Native.Nat.{ℕ, ◌≤◌, ◌<◌}
use mathlib.Core.List.{List, ◌++◌, append-nil}
use mathlib.Core.Path.{◌≡◌, refl, sym, ap, ap₂, ◌∙◌}
use native.Mathlib.Omega.{arith}
use borrow.Author.Tests.{lt-ltb, le-ltb}
use lib.IntN.{ℤ}
use lib.ListN.{length, drop, drop_of_length-le}
use Rattle.std.specs.Prelude.{Result, Ok, Err}
use Rattle.paper.specs.declared.Fault.{Fault}
use Rattle.paper.specs.declared.Refusal.TheVariants.{BadCapital, BookTooLong}
use Rattle.paper.specs.Refusals.{number_of, Checked, accepted, refused, answer_of}
use Rattle.paper.specs.Records.{Record, currencies}
use Rattle.paper.specs.Ledger.{totals, curved, cells, figures}
use Rattle.paper.specs.Verdict.{report_of}
use Rattle.paper.specs.Book.{outcome, report_after}
use Rattle.paper.specs.Program.{capital_in, program_outcome, changes_line, report_text, refusal_text, text_of, printed}
use Rattle.arrays.specs.Masks.{curved_by}
use Rattle.text.proofs.CurvedLines.{lines-alike}
use Rattle.book.specs.Assessed.{told, Answers}

-- a text at the start of a buffer, and how long it is
abbrev pub Stands : (text before : List ℕ) (count most : ℕ) (after : List ℕ) → Type 0
Stands text before count most after = ((count ≡ length text) × (count ≤ most)) × (after ≡ text ++ drop count before)

pub stands-as : {text other after : List ℕ} {count most more : ℕ} (before : List ℕ) → text ≡ other → most ≤ more → Stands text before count most after → Stands other before count more after
stands-as before e h s = ((s.0.0 ∙ ap (λ (l : List ℕ). length l) e, omega arith), s.1 ∙ rw e)

-- ---- the input

module _ (input : List ℕ) where
  pub long-input : 65536 < length input → program_outcome currencies input ≡ refused BookTooLong 0
  unfolding program_outcome
  long-input h = rw (lt-ltb 65536 (length input) h)

  module _ (fits : length input ≤ 65536) where
    pub short-input : length input < 8 → program_outcome currencies input ≡ refused BadCapital 0
    unfolding program_outcome
    short-input h = rw (le-ltb 65536 (length input) fits, lt-ltb (length input) 8 h)

    pub whole-input : 8 ≤ length input → program_outcome currencies input ≡ outcome currencies (drop 8 input) (capital_in input) (figures currencies) (cells currencies)
    unfolding program_outcome
    whole-input h = rw (le-ltb 65536 (length input) fits, le-ltb (length input) 8 h)

-- ---- the answer

module _ {T : ℕ} {report ledger report' ledger' : List ℤ} (a : Result ℕ Fault) where
  reports : (o : Checked (List Record)) (curves : ℕ) → a ≡ Ok curves → length report ≡ figures currencies → Answers o T report ledger a report' ledger' → report_text currencies (curved_by curves) report' ≡ text_of currencies o T
  unfolding text_of report_text report_after told answer_of
  reports (accepted kept) curves e long s =
      let is : report' ≡ report_of currencies (totals kept) T =
      s.report-is ∙ ap (λ (l : List ℤ). report_of currencies (totals kept) T ++ l) (drop_of_length-le report {i = figures currencies} (omega arith)) ∙ append-nil (report_of currencies (totals kept) T)
      in
      let text = changes_line (report_of currencies (totals kept) T) in
      rw (is, lines-alike (curved_by curves) (curved kept) text text currencies (s.curves-are curves kept e refl).has-it (λ c l h. refl))
  reports (refused q place) curves e long s = let said = ap told (sym e) ∙ s.says in let z : ◌≡◌ {A = ℕ} 0 1 = cc in absurd (omega arith)

  refuses : (o : Checked (List Record)) (f : Fault) → a ≡ Err f → Answers o T report ledger a report' ledger'
      → refusal_text (number_of f.cause) f.place ≡ text_of currencies o T
  unfolding text_of told answer_of
  refuses (accepted kept) f e s = let said = ap told (sym e) ∙ s.says in let z : ◌≡◌ {A = ℕ} 0 1 = cc in absurd (omega arith)
  refuses (refused r at) f e s =
      let said = ap told (sym e) ∙ s.says in
      let number : number_of f.cause ≡ number_of r = cc in
      let there : f.place ≡ at = cc in
      ap₂ refusal_text number there

  module _ (input : List ℕ) (s : Answers (program_outcome currencies input) T report ledger a report' ledger') (t : T ≡ capital_in input) where
    pub prints-report : (curves : ℕ) → a ≡ Ok curves → length report ≡ figures currencies → report_text currencies (curved_by curves) report' ≡ printed currencies input
    unfolding printed
    prints-report curves e long = reports (program_outcome currencies input) curves e long s ∙ ap (text_of currencies (program_outcome currencies input)) t

    pub prints-refusal : (f : Fault) → a ≡ Err f → refusal_text (number_of f.cause) f.place ≡ printed currencies input
    unfolding printed
    prints-refusal f e = refuses (program_outcome currencies input) f e s ∙ ap (text_of currencies (program_outcome currencies input)) t
