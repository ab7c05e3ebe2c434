-- Wrong programs that the contract of `assess` rules out, each by a concrete book: what they would answer or leave is not permitted.
use Prim.Native.Nat.{ℕ}
use mathlib.Core.List.{List, append-nil}
use mathlib.Core.Path.{◌≡◌, sym, ap, ◌∙◌}
use native.Mathlib.Omega.{arith}
use lib.IntN.{ℤ, pos}
use lib.ListN.{get_or, replicate}
use Rattle.std.specs.Prelude.{Result, Err}
use Rattle.paper.specs.declared.Fault.{Fault}
use Rattle.paper.specs.Refusals.{Checked, accepted, answer_of}
use Rattle.paper.specs.Records.{Record, currencies}
use Rattle.paper.specs.Ledger.{totals, cells, figures}
use Rattle.paper.specs.Verdict.{change_at, verdict_at, report_of}
use Rattle.paper.specs.Book.{outcome, report_after}
use Rattle.worked.proofs.Example as example
use Rattle.worked.proofs.TwoCurrencies as two
use Rattle.book.specs.Assessed.{told, Assesses}

-- rooms of exactly the report and the ledger, nil before
abbrev nil_report : List ℤ
nil_report = replicate (figures currencies) (pos 0)

abbrev nil_ledger : List ℤ
nil_ledger = replicate (cells currencies) (pos 0)

-- what is permitted of an accepted book, in these rooms, is its report
reported : {book : List ℕ} {T : ℕ} {a : Result ℕ Fault} {report' ledger' : List ℤ} (kept : List Record) → outcome currencies book T (figures currencies) (cells currencies) ≡ accepted kept
    → Assesses book T nil_report nil_ledger a report' ledger' → report' ≡ report_of currencies (totals kept) T
unfolding report_after
reported {T = T} kept e p =
    p.answers.report-is ∙ ap (λ (o : Checked (List Record)). report_after currencies o T nil_report) e ∙ append-nil (report_of currencies (totals kept) T)

-- one that refuses everything
pub not-all-refused : {report' ledger' : List ℤ} (f : Fault) → Assesses example.example 4214126 nil_report nil_ledger (Err f) report' ledger' → ⊥
unfolding told answer_of
not-all-refused f p =
    let said = p.answers.says ∙ ap answer_of (example.over-reported).accepts in
    let z : ◌≡◌ {A = ℕ} 0 1 = cc in omega arith

-- one that does not touch the report
pub not-untouched : {a : Result ℕ Fault} {ledger' : List ℤ} → Assesses example.example 4214126 nil_report nil_ledger a nil_report ledger' → ⊥
unfolding example.stated
not-untouched p =
    let same : nil_report ≡ example.stated 1 = reported example.kept (example.over-reported).accepts p ∙ (example.over-reported).report in
    let figure : pos 0 ≡ pos 632121 = ap (λ (l : List ℤ). get_or l 0 (pos 0)) same in
    let z : ◌≡◌ {A = ℕ} 0 632121 = cc in omega arith

module _ {a : Result ℕ Fault} {report' ledger' : List ℤ} where
  -- one that reports a fixed list: two values of T ask for two verdicts
  pub not-fixed : {b : Result ℕ Fault} {ledger'' : List ℤ} → Assesses example.example 4214126 nil_report nil_ledger a report' ledger'
      → Assesses example.example 4214154 nil_report nil_ledger b report' ledger'' → ⊥
  unfolding example.stated
  not-fixed p q =
      let over = reported example.kept (example.over-reported).accepts p ∙ (example.over-reported).report in
      let within = reported example.kept (example.within-reported).accepts q ∙ (example.within-reported).report in
      let figure : pos 1 ≡ pos 2 = ap (λ (l : List ℤ). get_or l (verdict_at currencies) (pos 0)) (sym over ∙ within) in
      let z : ◌≡◌ {A = ℕ} 1 2 = cc in omega arith

  -- one that always says "close"
  pub not-always-close : Assesses example.example 4214126 nil_report nil_ledger a report' ledger' → get_or report' (verdict_at currencies) (pos 0) ≡ pos 3 → ⊥
  unfolding example.stated
  not-always-close p e =
      let figure : get_or report' (verdict_at currencies) (pos 0) ≡ pos 1 = ap (λ (l : List ℤ). get_or l (verdict_at currencies) (pos 0)) (reported example.kept (example.over-reported).accepts p ∙ (example.over-reported).report) in
      let z : ◌≡◌ {A = ℕ} 1 3 = cc in omega arith

  -- in the book of two currencies: what it reports at a place
  figure-of : Assesses two.book 1 nil_report nil_ledger a report' ledger' → (j : ℕ) → get_or report' j (pos 0) ≡ get_or two.stated j (pos 0)
  figure-of p j = ap (λ (l : List ℤ). get_or l j (pos 0)) (reported two.kept two.taken p ∙ two.report-is)

  -- one that does the first record only, a curve, and zeros for the rest
  pub not-first-record : Assesses two.book 1 nil_report nil_ledger a report' ledger' → get_or report' (change_at 1 1) (pos 0) ≡ pos 0 → ⊥
  unfolding two.stated two.changes
  not-first-record p e = let z : ◌≡◌ {A = ℕ} 0 632121 = cc (figure-of p 0) in omega arith

  -- one that does the first scenario only
  pub not-first-scenario : Assesses two.book 1 nil_report nil_ledger a report' ledger' → get_or report' (change_at 1 2) (pos 0) ≡ pos 0 → ⊥
  unfolding two.stated two.changes
  not-first-scenario p e = let z : ◌≡◌ {A = ℕ} 0 1 = cc (figure-of p 1) in omega arith

  -- one that does the first currency only
  pub not-first-currency : Assesses two.book 1 nil_report nil_ledger a report' ledger' → get_or report' (change_at 2 2) (pos 0) ≡ pos 0 → ⊥
  unfolding two.stated two.changes
  not-first-currency p e = let z : ◌≡◌ {A = ℕ} 0 1718282 = cc (figure-of p 7) in omega arith
