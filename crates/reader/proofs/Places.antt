-- What stands at a place, by the paper's tests.
use Prim.Native.Nat.{ℕ, suc, ◌+◌, ◌≤◌, ◌<◌}
use mathlib.Core.Bool.{Bool, true, false}
use mathlib.Core.List.{List}
use mathlib.Core.Path.{◌≡◌, refl, sym, ap, ◌∙◌}
use native.Mathlib.Nat.{add-zero}
use native.Mathlib.Omega.{arith}
use borrow.Author.Tests.{le-leb, lt-leb, leb-true, leb-false, lt-ltb, le-ltb}
use lib.ListN.{length}
use Rattle.std.specs.Prelude.{Option, Some, None, Result, Ok, Err, if◌then◌else◌}
use Rattle.laws.specs.Tests.{◌up_to◌}
use Rattle.paper.specs.declared.Fault.{Fault}
use Rattle.paper.specs.declared.Refusal.{Refusal}
use Rattle.paper.specs.declared.Refusal.TheVariants.{UnknownKind, CutShort}
use Rattle.paper.specs.Refusals.{refused, ◌>>◌, unless, fault}
use Rattle.paper.specs.Records.{body_length, currencies}
use Rattle.paper.specs.Ledger.{SoFar}
use Rattle.paper.specs.TurnedDown.{unknown_kind, cut_short}
use Rattle.paper.specs.Fields.{byte}
use Rattle.paper.specs.Book.{placed, record_at, next_at}
use Rattle.kinds.specs.declared.kind.Kind.{Kind}
use Rattle.kinds.specs.Kind.{kind_number, kind_of}
use Rattle.kinds.proofs.Numbers.{number-known, kind-of-number, number-of-kind}
use Rattle.reader.specs.declared.Found.{Found}
use Rattle.reader.specs.Reader.{stands_at, place_after}

module _ (book : List ℕ) (at : ℕ) where
  pub stands-end : length book ≤ at → None ≡ stands_at book at
  unfolding stands_at
  stands-end l = rw (le-leb (length book) at l)

  pub stands-unknown : {number : ℕ} → number ≡ byte book at → at < length book → {cause : Refusal} → (cause ≡ UnknownKind) × (unknown_kind number ≡ true)
      → Some (Err (fault cause at)) ≡ stands_at book at
  unfolding stands_at
  stands-unknown is l (why, none) = let own = rw is at none in rw (lt-leb (length book) at l, own, why)

  module _ (kind : Kind) (is : kind_number kind ≡ byte book at) (l : at < length book) where
    abbrev end : ℕ
    end = suc at + body_length (kind_number kind)

    pub stands-cut : length book < end → Some (Err (fault CutShort at)) ≡ stands_at book at
    unfolding stands_at cut_short
    stands-cut h = rw (sym is, lt-leb (length book) at l, number-known kind, lt-ltb (length book) end h)

    pub stands-whole : end ≤ length book → Some (Ok (record { kind = kind; at = at; next = end })) ≡ stands_at book at
    unfolding stands_at cut_short next_at
    stands-whole h = rw (sym is, lt-leb (length book) at l, number-known kind, le-ltb (length book) end h, kind-of-number kind)

-- ---- what was read, back to the tests

-- a whole record of a known kind
pub record Whole (book : List ℕ) (at : ℕ) (found : Found) : Type 0 where
  pub goes_on : (length book up_to at) ≡ false
  pub known : unknown_kind (byte book at) ≡ false
  pub whole : cut_short (byte book at) at (length book) ≡ false
  pub kind-is : kind_number found.kind ≡ byte book at
  pub at-is : found.at ≡ at
  pub next-is : found.next ≡ next_at book at

module _ (book : List ℕ) (at : ℕ) where
  abbrev kind : ℕ
  kind = byte book at

  abbrev over : Bool
  over = length book up_to at

  abbrev cut : Bool
  cut = cut_short kind at (length book)

  abbrev tested : (over unknown cut : Bool) → Option (Result Found Fault)
  tested over unknown cut =
      if over then None else
      if unknown then Some (Err (fault UnknownKind at)) else
      if cut then Some (Err (fault CutShort at)) else
      Some (Ok (record { kind = kind_of kind; at = at; next = next_at book at }))

  nothing : (b unknown cut : Bool) → None ≡ tested b unknown cut → b ≡ true
  nothing true unknown cut e = refl
  nothing false true cut e = let z : ◌≡◌ {A = ℕ} 0 1 = cc in absurd (omega arith)
  nothing false false true e = let z : ◌≡◌ {A = ℕ} 0 1 = cc in absurd (omega arith)
  nothing false false false e = let z : ◌≡◌ {A = ℕ} 0 1 = cc in absurd (omega arith)

  one_found : (found : Found) (b u c : Bool) → over ≡ b → unknown_kind kind ≡ u → cut ≡ c → Some (Ok found) ≡ tested b u c → Whole book at found
  one_found found true unknown cut o u c e = let z : ◌≡◌ {A = ℕ} 0 1 = cc in absurd (omega arith)
  one_found found false true cut o u c e = let z : ◌≡◌ {A = ℕ} 0 1 = cc in absurd (omega arith)
  one_found found false false true o u c e = let z : ◌≡◌ {A = ℕ} 0 1 = cc in absurd (omega arith)
  one_found found false false false o u c e =
      let same : found ≡ record { kind = kind_of kind; at = at; next = next_at book at } = cc in
      record {
        goes_on = o;
        known = u;
        whole = c;
        kind-is = ap (λ (f : Found). kind_number f.kind) same ∙ number-of-kind kind u;
        at-is = ap (λ (f : Found). f.at) same;
        next-is = ap (λ (f : Found). f.next) same;
      }

  bad_record : (before : SoFar) (f : Fault) (b u c : Bool) → over ≡ b → unknown_kind kind ≡ u → cut ≡ c → Some (Err f) ≡ tested b u c
      → (at < length book) × (record_at currencies before book at ≡ refused f.cause f.place)
  unfolding record_at placed unless ◌>>◌
  bad_record before f true unknown cut o u c e = let z : ◌≡◌ {A = ℕ} 0 1 = cc in absurd (omega arith)
  bad_record before f false true cut o u c e =
      let same : f ≡ fault UnknownKind at = cc in
      (leb-false (length book) at o, rw (u, same, add-zero at))
  bad_record before f false false true o u c e =
      let same : f ≡ fault CutShort at = cc in
      (leb-false (length book) at o, rw (u, c, same, add-zero at))
  bad_record before f false false false o u c e = let z : ◌≡◌ {A = ℕ} 0 1 = cc in absurd (omega arith)

  -- the end of the book
  pub over-at : None ≡ stands_at book at → length book ≤ at
  unfolding stands_at
  over-at e = leb-true (length book) at (nothing over (unknown_kind kind) cut e)

  pub found-at : {found : Found} → Some (Ok found) ≡ stands_at book at → Whole book at found
  unfolding stands_at
  found-at {found} e = one_found found over (unknown_kind kind) cut refl refl refl e

  -- 1 or 2
  pub refused-at : {f : Fault} → Some (Err f) ≡ stands_at book at → (before : SoFar) → (at < length book) × (record_at currencies before book at ≡ refused f.cause f.place)
  unfolding stands_at
  refused-at {f} e before = bad_record before f over (unknown_kind kind) cut refl refl refl e

  -- the reader goes on
  pub moves-on : (r : Result Found Fault) → Some r ≡ stands_at book at → (at < length book) × (at < place_after book at (Some r))
  unfolding next_at
  moves-on (Ok found) e = let w = found-at e in (leb-false (length book) at w.goes_on, omega (arith, w.next-is))
  moves-on (Err f) e = let l : at < length book = (refused-at e nothing_yet).0 in (l, l)
    where
      nothing_yet : SoFar
      nothing_yet = record { curved = λ c. false; size = λ c i. 0; option_size = λ c i. 0 }
