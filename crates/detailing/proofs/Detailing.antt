-- What is told of an input, way out by way out, is what the paper has behind its outcome.
use Prim.Native.Nat.{ℕ, ◌≤◌}
use mathlib.Core.List.{List, [], ◌++◌, append-nil}
use mathlib.Core.Path.{◌≡◌, refl, sym, ap, ◌∙◌}
use native.Mathlib.Omega.{arith}
use lib.IntN.{ℤ, pos}
use lib.ListN.{get_or, drop, get_or-append}
use Rattle.std.specs.Prelude.{Result, Ok, Err}
use Rattle.paper.specs.declared.Fault.{Fault}
use Rattle.paper.specs.Refusals.{Checked, accepted, refused, answer_of}
use Rattle.paper.specs.Records.{Record, currencies}
use Rattle.paper.specs.Ledger.{totals, figures}
use Rattle.paper.specs.Change.{change, tolerance}
use Rattle.paper.specs.Verdict.{measure, total_tolerance, measure_at, report_of}
use Rattle.paper.specs.Book.{report_after}
use Rattle.paper.specs.Program.{capital_in, program_outcome, printed}
use Rattle.paper.specs.Detail.{behind, detailed}
use Rattle.paper.proofs.Checks.{known_of}
use Rattle.paper.proofs.Walk.{records-good}
use Rattle.paper.proofs.Report.{measure-reported}
use Rattle.verdict.specs.Figures.{most_of_a_sum}
use Rattle.valuation.proofs.KeptRecords.{kept-measure}
use Rattle.book.specs.Assessed.{told, Answers}
use Rattle.book.proofs.Truth.{report-long}
use Rattle.detailing.specs.Detailed.{behind_kept}
use Rattle.detailing.proofs.Accepted.{Accepted, accepted-input}

-- ---- a report

-- the measure in the report's room
measure-in : (T : ℕ) (o : Checked (List Record)) (report report' : List ℤ) (kept : List Record) → o ≡ accepted kept → report' ≡ report_after currencies o T report
    → get_or report' (measure_at currencies) (pos 0) ≡ pos (measure currencies (change (totals kept)))
unfolding report_after report_of
measure-in T o report report' kept e is =
    ap (λ (l : List ℤ). get_or l (measure_at currencies) (pos 0)) (is ∙ ap (λ (x : Checked (List Record)). report_after currencies x T report) e)
    ∙ get_or-append (report_of currencies (totals kept) T) (drop (figures currencies) report) (pos 0) (measure_at currencies) (omega (arith, report-long (totals kept) T))
    ∙ measure-reported currencies (change (totals kept)) (total_tolerance currencies (tolerance (totals kept))) T

-- what is known of an input whose book is reported
pub record Reports (input : List ℕ) (report' : List ℤ) : Type 0 where
  pub kept : List Record
  pub outcome-is : program_outcome currencies input ≡ accepted kept
  pub input-is : Accepted input kept
  pub measure-is : get_or report' (measure_at currencies) (pos 0) ≡ pos (measure currencies (change (totals kept)))
  pub measure-fits : measure currencies (change (totals kept)) ≤ most_of_a_sum

reported-kept : (o : Checked (List Record)) (a : Result ℕ Fault) (curves : ℕ) → a ≡ Ok curves → told a ≡ answer_of o → (kept : List Record) × (o ≡ accepted kept)
unfolding told answer_of
reported-kept (accepted kept) a curves e s = (kept, refl)
reported-kept (refused q place) a curves e s = let said = ap told (sym e) ∙ s in let z : ◌≡◌ {A = ℕ} 0 1 = cc in absurd (omega arith)

module _ (input : List ℕ) {report ledger report' ledger' : List ℤ} (a : Result ℕ Fault) (s : Answers (program_outcome currencies input) (capital_in input) report ledger a report' ledger') where
  pub reports : (curves : ℕ) → a ≡ Ok curves → Reports input report'
  reports curves e =
      let k = reported-kept (program_outcome currencies input) a curves e s.says in
      let own = accepted-input input k.0 k.1 in
      record {
        kept = k.0;
        outcome-is = k.1;
        input-is = own;
        measure-is = measure-in (capital_in input) (program_outcome currencies input) report report' k.0 k.1 s.report-is;
        measure-fits = kept-measure k.0 (known_of (records-good currencies (drop 8 input)) k.0 own.records);
      }

  -- ---- a refusal: nothing stands behind it

  none-behind : (o : Checked (List Record)) (f : Fault) → a ≡ Err f → told a ≡ answer_of o → behind currencies (drop 8 input) o (capital_in input) ≡ []
  unfolding behind told answer_of
  none-behind (accepted kept) f e s = let said = ap told (sym e) ∙ s in let z : ◌≡◌ {A = ℕ} 0 1 = cc in absurd (omega arith)
  none-behind (refused q place) f e s = refl

  pub refusal-detailed : (f : Fault) → a ≡ Err f → printed currencies input ≡ detailed currencies input
  unfolding detailed
  refusal-detailed f e =
      sym (append-nil (printed currencies input)) ∙ ap (λ (l : List ℕ). printed currencies input ++ l) (sym (none-behind (program_outcome currencies input) f e s.says))

pub report-detailed : (input : List ℕ) {report' : List ℤ} (r : Reports input report')
    → printed currencies input ++ behind_kept (drop 8 input) r.kept (measure currencies (change (totals r.kept))) (capital_in input) ≡ detailed currencies input
unfolding detailed behind
report-detailed input r = rw r.outcome-is
