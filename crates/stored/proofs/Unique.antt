-- Any two outcomes that the contract of `widen` permits are one.
use Prim.Native.Nat.{ℕ}
use mathlib.Core.List.{List}
use mathlib.Core.Path.{◌≡◌, refl, sym, ap, ◌∙◌}
use native.Mathlib.Omega.{arith}
use lib.IntN.{ℤ}
use Rattle.std.specs.Prelude.{Result, Ok, Err}
use Rattle.paper.specs.declared.Fault.{Fault}
use Rattle.paper.specs.Refusals.{number_of, Checked, accepted, refused, answer_of}
use Rattle.paper.proofs.Numbers.{one-fault}
use Rattle.stored.specs.Stored.{told, Widens}

one_answer : (o : Checked (List ℤ)) (a b : Result (Unit {0}) Fault) → told a ≡ answer_of o → told b ≡ answer_of o → a ≡ b
unfolding told answer_of
one_answer (accepted wide) (Ok done) (Ok other) e f = refl
one_answer (accepted wide) (Err r) b e f = let z : ◌≡◌ {A = ℕ} 0 1 = cc in absurd (omega arith)
one_answer (accepted wide) (Ok done) (Err r) e f = let z : ◌≡◌ {A = ℕ} 0 1 = cc in absurd (omega arith)
one_answer (refused t at) (Ok done) b e f = let z : ◌≡◌ {A = ℕ} 0 1 = cc in absurd (omega arith)
one_answer (refused t at) (Err r) (Ok tt) e f = let z : ◌≡◌ {A = ℕ} 0 1 = cc in absurd (omega arith)
one_answer (refused t at) (Err r) (Err s) e f =
    let number : number_of r.cause ≡ number_of s.cause = cc in
    let there : r.place ≡ s.place = cc in
    ap Err (one-fault r s number there)

pub one-widening : {stored report : List ℤ} {a b : Result (Unit {0}) Fault} {report₁ report₂ : List ℤ} → Widens stored report a report₁ → Widens stored report b report₂ → (a ≡ b) × (report₁ ≡ report₂)
one-widening {a = a} {b = b} p q = (one_answer _ a b p.says q.says, p.report-is ∙ sym q.report-is)
