-- A turn of the walk: a whole record is what the paper's tests say of its place, and its body is admitted as the paper's is.
use Prim.Native.Nat.{ℕ, suc, ◌+◌, ◌-◌, ◌≤◌, ◌<◌}
use mathlib.Core.Bool.{Bool, false}
use mathlib.Core.List.{List}
use mathlib.Core.Path.{◌≡◌, refl, sym, ap, ap₂, ◌∙◌}
use native.Mathlib.Numerals.{add-one}
use native.Mathlib.Omega.{arith}
use borrow.Author.Tests.{ltb-false, eqb-false}
use lib.ListN.{length, take, drop}
use Rattle.std.specs.Prelude.{Result, Ok, Err}
use Rattle.laws.proofs.Sections.{length-section}
use Rattle.paper.specs.declared.Fault.{Fault}
use Rattle.paper.specs.Refusals.{Checked, accepted, refused, ◌>>=◌, ◌>>◌, unless, fault, result_of}
use Rattle.paper.specs.Records.{Record, body_length, currency_of, is_curve, curve_kind, currencies}
use Rattle.paper.specs.Ledger.{SoFar}
use Rattle.paper.specs.TurnedDown.{unknown_kind, cut_short}
use Rattle.paper.specs.Fields.{byte, currency_at}
use Rattle.paper.specs.Book.{placed, admitted, record_at, next_at}
use Rattle.paper.proofs.Checks.{known_of, cause-of, chain, unless-known, inside-most}
use Rattle.paper.proofs.Ranges.{currency-known}
use Rattle.paper.proofs.Walk.{admitted-inside}
use Rattle.paper.proofs.KindTable.{first_field}
use Rattle.arrays.specs.declared.masks.Masks.{Masks}
use Rattle.arrays.specs.Masks.{marked_by}
use Rattle.arrays.specs.Arrays.{Arrays, Holding, with_record}
use Rattle.posting.specs.Answers.{into}
use Rattle.kinds.specs.declared.kind.Kind.{Kind}
use Rattle.kinds.specs.Kind.{kind_number}
use Rattle.kinds.proofs.Numbers.{number-known}
use Rattle.reader.specs.declared.Found.{Found}
use Rattle.reader.proofs.Places.{Whole}
use Rattle.turn.specs.Step.{fault_at, Stepped}

-- ---- a whole record lies in the book, as many bytes as its kind has

-- its body
abbrev pub body_in : List ℕ → Found → List ℕ
body_in book found = take (found.next - (found.at + 1)) (drop (found.at + 1) book)

pub record InBook (book : List ℕ) (found : Found) : Type 0 where
  pub starts : found.at + 1 ≤ found.next
  pub ends : found.next ≤ length book
  pub long : length (body_in book found) ≡ body_length (kind_number found.kind)
  pub within : found.at + body_length (kind_number found.kind) < length book

module _ {book : List ℕ} {found : Found} (l : Whole book found.at found) where
  -- the bytes that the reader points at are the paper's body
  same_body : found.next - (found.at + 1) ≡ body_length (byte book found.at)
  unfolding next_at
  same_body = omega (arith, l.next-is)

  pub in-book : InBook book found
  unfolding next_at cut_short
  in-book =
      let bytes = body_length (byte book found.at) in
      let within : suc found.at + bytes ≤ length book = ltb-false (length book) (suc found.at + bytes) l.whole in
      let long : length (body_in book found) ≡ bytes = rw same_body (length-section (found.at + 1) bytes book (omega (arith, within))) in
      let own : bytes ≡ body_length (kind_number found.kind) = ap body_length (sym l.kind-is) in
      record {
        starts = omega (arith, l.next-is);
        ends = omega (arith, l.next-is, within);
        long = long ∙ own;
        within = omega (arith, own, within);
      }

-- ---- what a result stands for

pub accepted-as : {m : Checked ℕ} {x : ℕ} → Ok x ≡ result_of (λ (n : ℕ). n) m → m ≡ accepted x
accepted-as {m = accepted y} {x} e = let same : x ≡ y = cc in ap accepted (sym same)
accepted-as {m = refused q place} e = let z : ◌≡◌ {A = ℕ} 0 1 = cc in absurd (omega arith)

module _ {A B : Type 0} (as_code : A → B) where
  pub refused-as : {m : Checked A} {f : Fault} → Err f ≡ result_of as_code m → m ≡ refused f.cause f.place
  refused-as {m = accepted x} {f} e = let z : ◌≡◌ {A = ℕ} 0 1 = cc in absurd (omega arith)
  refused-as {m = refused q place} {f} e = let same : f ≡ fault q place = cc in sym (ap (λ (g : Fault). refused g.cause g.place) same)

  pub some-accepted : {m : Checked A} {y : B} → Ok y ≡ result_of as_code m → (x : A) × (m ≡ accepted x)
  some-accepted {m = accepted x} e = (x, refl)
  some-accepted {m = refused q place} e = let z : ◌≡◌ {A = ℕ} 0 1 = cc in absurd (omega arith)

-- an answer that holds nothing but what was refused
abbrev pub all_said : Checked Record → Result (Unit {0}) Fault
all_said = result_of (λ r. tt)

-- ---- a whole body of a known kind

pub body-long : (kind : Kind) → 0 < body_length (kind_number kind)
unfolding unknown_kind
body-long kind = omega (arith, eqb-false (body_length (kind_number kind)) 0 (number-known kind))

-- a bad currency is told one byte into the record
pub bad-inside : (body : List ℕ) (f : Fault) → currency_at currencies body 0 ≡ refused f.cause f.place → f.place ≤ 1
bad-inside body f e = inside-most (cause-of (currency-known body 0 (omega arith) currencies) f.cause f.place e)

-- reading a body asks nothing of the currencies used
pub curves-hold : {m : Masks} {a : Arrays} → Holding m a → Holding (record { used = 0; curved = m.curved }) a
curves-hold h = record { sized = h.sized; used-small = omega arith; curved-small = h.curved-small; bare = h.bare }

module _ (before : SoFar) (kind : ℕ) (body : List ℕ) where
  abbrev read : Checked Record
  read = admitted currencies before kind body

  -- a fault lies within the record
  pub fault-inside : (f : Fault) → read ≡ refused f.cause f.place → f.place ≤ body_length kind
  fault-inside f e = inside-most (cause-of (admitted-inside currencies before kind body) f.cause f.place e)

  module _ (m : Masks) (a : Arrays) where
    -- its currency is bad
    pub stepped-bad : unknown_kind kind ≡ false → (f : Fault) → currency_at currencies body 0 ≡ refused f.cause f.place → Stepped read m a (Err f) a
    unfolding admitted ◌>>=◌
    stepped-bad sort f e = rw ((first_field currencies before.curved kind body).refuses sort f.cause f.place e) (record { answered = refl; arrays = refl })

    -- it is refused for another cause
    pub stepped-refused : (f : Fault) {a' : Arrays} → Err f ≡ all_said read → a' ≡ into with_record read a → Stepped read m a (Err f) a'
    stepped-refused f e arrays = let no = refused-as (λ (r : Record). tt {0}) e in rw no (record { answered = refl; arrays = rw no at arrays })

    -- it is taken, and its currency marked
    pub stepped-done : (c : ℕ) → currency_at currencies body 0 ≡ accepted c → {a' : Arrays} {m' : Masks} → Ok tt ≡ all_said read → a' ≡ into with_record read a
        → m' ≡ marked_by (curve_kind kind) c m → Stepped read m a (Ok m') a'
    unfolding admitted
    stepped-done c first e arrays marks =
        let d = some-accepted (λ (r : Record). tt {0}) e in
        let own : currency_at currencies body 0 ≡ accepted (currency_of d.0) = known_of (chain (first_field currencies before.curved kind body).own (λ r h. unless-known _ _ _ r tt (λ _. h))) d.0 d.1 in
        let sorts : is_curve d.0 ≡ curve_kind kind = known_of (chain (first_field currencies before.curved kind body).marks (λ r h. unless-known _ _ _ r tt (λ _. h))) d.0 d.1 in
        let mine : c ≡ currency_of d.0 = cc in
        rw d.1 (record {
          answered = ap Ok (marks ∙ ap₂ (λ (b : Bool) (n : ℕ). marked_by b n m) (sym sorts) mine);
          arrays = rw d.1 at arrays;
        })

-- ---- told where its record begins

module _ (at : ℕ) (m : Masks) (a a' : Arrays) where
  pub placed-taken : (x : Checked Record) (m' : Masks) → Stepped x m a (Ok m') a' → Stepped (placed at x) m a (Ok m') a'
  unfolding placed
  placed-taken (accepted r) m' s = s
  placed-taken (refused q place) m' s = let no = s.answered in let z : ◌≡◌ {A = ℕ} 0 1 = cc in absurd (omega arith)

  pub placed-refused : (x : Checked Record) (f : Fault) → Stepped x m a (Err f) a' → Stepped (placed at x) m a (Err (fault_at at f)) a'
  unfolding placed
  placed-refused (accepted r) f s = let no = s.answered in let z : ◌≡◌ {A = ℕ} 0 1 = cc in absurd (omega arith)
  placed-refused (refused q place) f s =
      let answered = s.answered in
      let same : f ≡ fault q place = cc in
      record { answered = ap (λ (g : Fault). Err (fault_at at g)) same; arrays = s.arrays }

pub turn-record : (before : SoFar) {book : List ℕ} {found : Found} → Whole book found.at found → {m : Masks} {a a' : Arrays} {answer : Result Masks Fault}
    → Stepped (placed found.at (admitted currencies before (kind_number found.kind) (body_in book found))) m a answer a' → Stepped (record_at currencies before book found.at) m a answer a'
unfolding record_at unless ◌>>◌
turn-record before l s = let u = rw (same_body l, l.kind-is, add-one) at s in rw (l.known, l.whole) u
