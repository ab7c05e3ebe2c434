-- Request 2 of 02 tells places within the record, and that is all it changes: a book is accepted, or earns its number, as by the walk that forgets them.
use Prim.Native.Nat.{ℕ, zero, suc, ◌+◌}
use mathlib.Core.Bool.{Bool, true, false, true≢false}
use mathlib.Core.List.{List, [], ◌∷◌, ◌++◌}
use mathlib.Core.Path.{◌≡◌, refl}
use native.Mathlib.Omega.{arith}
use lib.IntN.{ℤ}
use lib.ListN.{length}
use Rattle.std.specs.Prelude.{if◌then◌else◌}
use Rattle.laws.specs.Tests.{◌up_to◌}
use Rattle.paper.specs.declared.Refusal.{Refusal}
use Rattle.paper.specs.Refusals.{number_of, of_field, Checked, refused, ◌>>=◌, ◌>>◌, unless, refuse_if}
use Rattle.paper.specs.Records.{Record, body_length}
use Rattle.paper.specs.Fields.{byte}
use Rattle.paper.specs.Book.{placed, record_at, next_at, walk_from, walk, covered, outcome, report_after, ledger_after}
use Rattle.paper.specs.Earlier.{at_start, earlier_from, earlier, Told, Alike, both-accept, both-refuse, without_place}
use Rattle.paper.proofs.Checks.{Checks, Inside, known, gone}
use Rattle.paper.proofs.Walk.{record-inside}

module _ {book : List ℕ} where
  -- ---- one after the other

  -- a cause that is no field's
  stays : {r : Refusal} {place : ℕ} → of_field r ≡ false → Told book r place place
  stays e = record { field = λ f. let z : ◌≡◌ {A = Bool} true false = cc in absurd (true≢false z); whole = λ _. refl }

  module _ {A : Type 0} where
    alike_then : {B : Type 0} {m n : Checked A} {next further : A → Checked B} → Alike book m n → ((a : A) → Alike book (next a) (further a)) → Alike book (m >>= next) (n >>= further)
    unfolding ◌>>=◌
    alike_then (both-accept {a = a}) rest = rest a
    alike_then (both-refuse told) rest = both-refuse told

    alike-tested : (circumstance : Bool) (r : Refusal) (place : ℕ) → of_field r ≡ false → {m n : Checked A} → Alike book m n → Alike book (refuse_if circumstance r place >> m) (refuse_if circumstance r place >> n)
    unfolding ◌>>◌ unless
    alike-tested true r place e h = both-refuse (stays e)
    alike-tested false r place e h = h

    alike-unless : (circumstance : Bool) (r : Refusal) (place : ℕ) (a : A) → of_field r ≡ false → Alike book (unless circumstance r place a) (unless circumstance r place a)
    unfolding unless
    alike-unless true r place a e = both-refuse (stays e)
    alike-unless false r place a e = both-accept

    alike-either : (b : Bool) {m n p q : Checked A} → Alike book m n → Alike book p q → Alike book (if b then m else p) (if b then n else q)
    alike-either true h k = h
    alike-either false h k = k

    -- what does not ask for the place
    same-but-place : {B : Type 0} (f : Checked A → B) → ((r : Refusal) (past now : ℕ) → f (refused r now) ≡ f (refused r past)) → {m n : Checked A} → Alike book m n → f n ≡ f m
    same-but-place f blind both-accept = refl
    same-but-place f blind (both-refuse {r = r} {past = past} {now = now} told) = blind r past now

    -- ---- a record

    alike-placed : {P : A → Type 0} (at : ℕ) {m : Checked A} → Checks (Inside (body_length (byte book at))) P m → Alike book (at_start at m) (placed at m)
    unfolding at_start placed next_at
    alike-placed at (known h) = both-accept
    alike-placed at (gone {place = o} i) =
        both-refuse {past = at} {now = at + o} (record { field = λ e. let f = i.field e in (omega (arith, f.0), omega (arith, f.1)); whole = λ e. omega (arith, i.whole e) })

-- ---- the walk

module _ (top : ℕ) (book : List ℕ) where
  alike_from : (fuel at : ℕ) (kept : List Record) → Alike book (earlier_from top fuel book at kept) (walk_from top fuel book at kept)
  unfolding earlier_from walk_from record_at
  alike_from zero at kept = both-accept
  alike_from (suc fuel) at kept =
      alike-either (length book up_to at) both-accept
      (alike_then (alike-placed at (record-inside top kept book at)) (λ r. alike_from fuel (next_at book at) (kept ++ (r ∷ []))))

  module _ (T report_room ledger_room : ℕ) where
    pub as_before : Alike book (earlier top book T report_room ledger_room) (outcome top book T report_room ledger_room)
    unfolding earlier outcome walk covered of_field number_of
    as_before =
        alike-tested _ _ _ refl
        (alike-tested _ _ _ refl
        (alike-tested _ _ _ refl
        (alike_then (alike_from (length book) 0 []) (λ kept. alike-unless _ _ _ kept refl))))

    -- the records that are kept, or the number
    pub numbers_stay : without_place (outcome top book T report_room ledger_room) ≡ without_place (earlier top book T report_room ledger_room)
    unfolding without_place
    numbers_stay = same-but-place without_place (λ r past now. refl) as_before

    -- and so what the report and the ledger hold at exit
    pub report-stays : (report : List ℤ) → report_after top (outcome top book T report_room ledger_room) T report ≡ report_after top (earlier top book T report_room ledger_room) T report
    unfolding report_after
    report-stays report = same-but-place (λ x. report_after top x T report) (λ r past now. refl) as_before

    pub ledger-stays : (ledger : List ℤ) → ledger_after top (outcome top book T report_room ledger_room) ledger ≡ ledger_after top (earlier top book T report_room ledger_room) ledger
    unfolding ledger_after
    ledger-stays ledger = same-but-place (λ x. ledger_after top x ledger) (λ r past now. refl) as_before
