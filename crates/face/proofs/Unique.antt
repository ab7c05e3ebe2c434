-- Any two outcomes that the contracts of the face permit are one.
use Prim.Native.Nat.{ℕ}
use mathlib.Core.List.{List}
use mathlib.Core.Path.{◌≡◌, sym, ◌∙◌}
use lib.IntN.{ℤ}
use Rattle.paper.specs.Refusals.{Checked, Answer}
use Rattle.paper.specs.Records.{Record}
use Rattle.face.specs.Face.{Tells, Faced, WidenedFace}

one-telling : {a : Answer} {place place₁ place₂ : List ℕ} {m n : ℕ} → Tells a place m place₁ → Tells a place n place₂ → (m ≡ n) × (place₁ ≡ place₂)
one-telling p q = (p.number_is ∙ sym q.number_is, p.place_is ∙ sym q.place_is)

pub one-face : {o : Checked (List Record)} {T : ℕ} {report ledger report₁ report₂ ledger₁ ledger₂ : List ℤ} {place place₁ place₂ : List ℕ} {m n : ℕ}
    → Faced o T report ledger place m report₁ ledger₁ place₁ → Faced o T report ledger place n report₂ ledger₂ place₂
    → ((m ≡ n) × (place₁ ≡ place₂)) × (report₁ ≡ report₂) × (ledger₁ ≡ ledger₂)
one-face p q = (one-telling p.tells q.tells, p.report-is ∙ sym q.report-is, p.ledger-is ∙ sym q.ledger-is)

pub one-widening : {stored report report₁ report₂ : List ℤ} {place place₁ place₂ : List ℕ} {m n : ℕ}
    → WidenedFace stored report place m report₁ place₁ → WidenedFace stored report place n report₂ place₂ → ((m ≡ n) × (place₁ ≡ place₂)) × (report₁ ≡ report₂)
one-widening p q = (one-telling p.tells q.tells, p.report-is ∙ sym q.report-is)
