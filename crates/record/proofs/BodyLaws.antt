-- A body decoded up to a field, and a rule of the record after its fields.
use Prim.Native.Nat.{ℕ, suc, ◌+◌, ◌*◌, ◌≤◌, ◌<◌}
use mathlib.Core.Bool.{Bool, true, false}
use mathlib.Core.List.{List}
use mathlib.Core.Path.{◌≡◌, refl, sym, ap, ◌∙◌}
use native.Mathlib.Omega.{arith}
use borrow.Author.Tests.{lt-ltb, le-ltb}
use Rattle.laws.specs.Tests.{◌below◌}
use Rattle.paper.specs.declared.Refusal.{Refusal}
use Rattle.paper.specs.declared.Fault.{Fault}
use Rattle.paper.specs.Ladder.{buckets}
use Rattle.paper.specs.Refusals.{Checked, accepted, refused, ◌>>=◌, ◌>>◌, unless, refuse_if, fault}
use Rattle.paper.specs.Records.{Record, currencies}
use Rattle.paper.specs.Fields.{currency_at}
use Rattle.record.specs.Answers.{IsBody}

-- ---- a rule of the record, after its fields

pub refusing : (q : Refusal) (place : ℕ) {b : Bool} → b ≡ true → refuse_if b q place ≡ refused q place
unfolding unless
refusing q place e = rw e

pub refusing-record : (q : Refusal) {b : Bool} {f : Fault} → b ≡ true → f ≡ fault q 0 → refuse_if b q 0 ≡ refused f.cause f.place
refusing-record q {f = f} e h = rw h (refusing q 0 e)

pub passing : (q : Refusal) (place : ℕ) {b : Bool} → b ≡ false → refuse_if b q place ≡ accepted tt
unfolding unless
passing q place e = rw e

-- a rule that some bucket breaks, whose cell stands in the body from o on: the first such bucket was found, or none
module _ (q : Refusal) (o : ℕ) {k found : ℕ} (e : found ≡ k) where
  pub refusing-at : found < buckets → refuse_if (k below buckets) q (suc (o + 4 * k)) ≡ refused q (suc o + 4 * found)
  refusing-at l = refusing q _ (ap (λ (j : ℕ). j below buckets) (sym e) ∙ lt-ltb _ _ l) ∙ ap (refused q) (omega arith)

  pub passing-all : buckets ≤ found → refuse_if (k below buckets) q (suc (o + 4 * k)) ≡ accepted tt
  passing-all l = passing q _ (ap (λ (j : ℕ). j below buckets) (sym e) ∙ le-ltb _ _ l)

pub rule : {A B : Type 0} (m : Checked A) (rest : Checked B) → (m >> rest) ≡ (m >>= (λ x. rest))
unfolding ◌>>◌ ◌>>=◌
rule (accepted x) rest = refl
rule (refused q place) rest = refl

-- ---- what is left to decode of a body, from a field on

pub after : {A B : Type 0} {m : Checked A} {x : A} (next : A → Checked B) → m ≡ accepted x → (m >>= next) ≡ next x
unfolding ◌>>=◌
after next e = rw e

pub record Left {A : Type 0} (field : List ℕ → Checked A) : Type 0 where
  pub whole : Checked Record
  pub body : List ℕ
  pub next : A → Checked Record
  pub same : whole ≡ (field body >>= next)

module _ {A : Type 0} {field : List ℕ → Checked A} where
  -- at the second field all but the currency is left
  abbrev pub begin : {n currency : ℕ} {body : List ℕ} (decode : List ℕ → Checked Record) (rest : ℕ → Checked Record) (next : A → Checked Record)
      → IsBody n currency body → decode body ≡ (currency_at currencies body 0 >>= rest) → rest currency ≡ (field body >>= next) → Left field
  begin {body = body} decode rest next h p q = record { whole = decode body; body = body; next = next; same = p ∙ after rest h.first ∙ q }

  -- the field is refused, and the record with it; or it is read
  pub out : {q : Refusal} {place : ℕ} (left : Left field) → field left.body ≡ refused q place → refused q place ≡ left.whole
  unfolding ◌>>=◌
  out left e = rw (left.same, e)

  pub on : {x : A} (left : Left field) → field left.body ≡ accepted x → left.whole ≡ left.next x
  on left e = left.same ∙ after left.next e

  -- it is read, and another follows
  abbrev pub then : {B : Type 0} {further : List ℕ → Checked B} {x : A} (left : Left field) (next : B → Checked Record)
      → field left.body ≡ accepted x → left.next x ≡ (further left.body >>= next) → Left further
  then left next e p = record { whole = left.whole; body = left.body; next = next; same = on left e ∙ p }
