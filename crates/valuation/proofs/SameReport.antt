-- Totals that agree on all currencies have the same report.
use Prim.Native.Nat.{ℕ, suc, ◌≤◌}
use mathlib.Core.Path.{◌≡◌, sym, ap, ◌∙◌}
use native.Mathlib.Omega.{arith}
use Rattle.laws.proofs.Sums.{sum-ext, greatest-ext}
use Rattle.paper.specs.Records.{currencies}
use Rattle.paper.specs.Flow.{shocked}
use Rattle.paper.specs.Ledger.{Totals}
use Rattle.paper.specs.Change.{change}
use Rattle.paper.specs.Verdict.{total_tolerance, report_from, report_of}
use Rattle.paper.proofs.ReportList.{report-same}
use Rattle.change.proofs.Agreement.{SameCurrency, change-same, tolerance-same}
use Rattle.valuation.specs.Bounds.{Nothing}

pub currency-nothing : {t : Totals} {c : ℕ} {u : Totals} {d : ℕ} → SameCurrency t c u d → Nothing t c → Nothing u d
currency-nothing s n = record {
  flows = λ i k l m. sym ((s.rows i l).cells k m) ∙ n.flows i k l m;
  add_ons = λ i p l. sym (s.add_ons i p l) ∙ n.add_ons i p l;
}

pub totals-report : (t u : Totals) (T : ℕ) → ((c : ℕ) → 1 ≤ c → c ≤ currencies → SameCurrency t c u c) → report_of currencies t T ≡ report_of currencies u T
unfolding report_of total_tolerance
totals-report t u T s =
    report-same currencies (change t) (change u) (λ c i l h. change-same (s c l h) i) _ T
    ∙ ap (λ (most : ℕ). report_from currencies (change u) most T)
    (greatest-ext _ _ shocked (λ i p l. sum-ext _ _ currencies (λ c m. tolerance-same (s (suc c) (omega arith) m) i p l)))
