-- Any two outcomes that the contract of `assess` permits are one.
use Prim.Native.Nat.{ℕ}
use mathlib.Core.List.{List}
use mathlib.Core.Path.{◌≡◌, refl, sym, ap, ◌∙◌}
use native.Mathlib.Omega.{arith}
use lib.IntN.{ℤ}
use Rattle.std.specs.Prelude.{Result, Ok, Err}
use Rattle.paper.specs.declared.Fault.{Fault}
use Rattle.paper.specs.Refusals.{number_of, Checked, accepted, refused, answer_of}
use Rattle.paper.specs.Records.{Record}
use Rattle.paper.specs.Ledger.{curved}
use Rattle.paper.proofs.Numbers.{one-fault}
use Rattle.arrays.specs.Masks.{MaskOf}
use Rattle.arrays.proofs.Sets.{one-mask}
use Rattle.book.specs.Assessed.{told, Assesses}

-- whatever the two masks are of, it is the same set
one_answer : (o : Checked (List Record)) (a b : Result ℕ Fault) → told a ≡ answer_of o → told b ≡ answer_of o
    → ((curves : ℕ) (kept : List Record) → a ≡ Ok curves → o ≡ accepted kept → MaskOf curves (curved kept))
    → ((curves : ℕ) (kept : List Record) → b ≡ Ok curves → o ≡ accepted kept → MaskOf curves (curved kept)) → a ≡ b
unfolding told answer_of
one_answer (accepted kept) (Ok m) (Ok n) e f p q = ap Ok (one-mask (p m kept refl refl) (q n kept refl refl))
one_answer (accepted kept) (Err r) b e f p q = let z : ◌≡◌ {A = ℕ} 0 1 = cc in absurd (omega arith)
one_answer (accepted kept) (Ok m) (Err r) e f p q = let z : ◌≡◌ {A = ℕ} 0 1 = cc in absurd (omega arith)
one_answer (refused t at) (Ok m) b e f p q = let z : ◌≡◌ {A = ℕ} 0 1 = cc in absurd (omega arith)
one_answer (refused t at) (Err r) (Ok n) e f p q = let z : ◌≡◌ {A = ℕ} 0 1 = cc in absurd (omega arith)
one_answer (refused t at) (Err r) (Err s) e f p q =
    let number : number_of r.cause ≡ number_of s.cause = cc in
    let there : r.place ≡ s.place = cc in
    ap Err (one-fault r s number there)

pub record Same (a b : Result ℕ Fault) (report report' ledger ledger' : List ℤ) : Type 0 where
  pub answers : a ≡ b
  pub reports : report ≡ report'
  pub ledgers : ledger ≡ ledger'

pub one-outcome : {book : List ℕ} {T : ℕ} {report ledger : List ℤ} {a b : Result ℕ Fault} {report₁ report₂ ledger₁ ledger₂ : List ℤ}
    → Assesses book T report ledger a report₁ ledger₁ → Assesses book T report ledger b report₂ ledger₂ → Same a b report₁ report₂ ledger₁ ledger₂
one-outcome {a = a} {b = b} p q = record {
  answers = one_answer _ a b p.answers.says q.answers.says p.answers.curves-are q.answers.curves-are;
  reports = p.answers.report-is ∙ sym q.answers.report-is;
  ledgers = p.answers.ledger-is ∙ sym q.answers.ledger-is;
}
