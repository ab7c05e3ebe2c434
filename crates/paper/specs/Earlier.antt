-- No part of 01 and 02 as they stand: places as they were told before request 2 of 02, at the record's first byte whichever field was at fault. Kept for one theorem,
-- `as_before`: a book is accepted, or else earns its number, exactly as it did, and its place lies in the same record.
use Rattle.std.specs.Prelude.{ℕ, zero, suc, ◌<◌, true, false, List, [], ◌∷◌, ◌++◌, ◌≡◌, length, if◌then◌else◌}
use Rattle.laws.specs.Tests.{◌up_to◌}
use Rattle.paper.specs.declared.Refusal.{Refusal}
use Rattle.paper.specs.declared.Refusal.TheVariants.{BadCapital, BookTooLong, RoomTooSmall}
use Rattle.paper.specs.Refusals.{of_field, Checked, accepted, refused, ◌>>=◌, ◌>>◌, refuse_if}
use Rattle.paper.specs.Records.{Record}
use Rattle.paper.specs.Ledger.{so_far}
use Rattle.paper.specs.TurnedDown.{bad_capital, book_too_long, room_too_small}
use Rattle.paper.specs.Book.{next_at, record_from, covered}

-- the place within the record is forgotten
unfoldable pub at_start : {A : Type 0} → ℕ → Checked A → Checked A
at_start at (accepted a) = accepted a
at_start at (refused r o) = refused r at

module _ (top : ℕ) where
  unfoldable pub earlier_from : ℕ → List ℕ → ℕ → List Record → Checked (List Record)
  earlier_from zero book at kept = accepted kept
  earlier_from (suc fuel) book at kept =
      if length book up_to at then accepted kept else
      (at_start at (record_from top (so_far kept) book at) >>= (λ r. earlier_from fuel book (next_at book at) (kept ++ (r ∷ []))))

  unfoldable pub earlier : List ℕ → ℕ → (report_room ledger_room : ℕ) → Checked (List Record)
  earlier book T report_room ledger_room = do
    refuse_if (room_too_small top report_room ledger_room) RoomTooSmall 0
    refuse_if (book_too_long (length book)) BookTooLong 0
    refuse_if (bad_capital T) BadCapital 0
    kept ← earlier_from (length book) book 0 []
    covered top kept

-- ---- what stays, and what is told otherwise

unfoldable pub without_place : {A : Type 0} → Checked A → Checked A
without_place (accepted a) = accepted a
without_place (refused r place) = refused r 0

-- the place of a refusal then and now
pub record Told (book : List ℕ) (r : Refusal) (past now : ℕ) : Type 0 where
  -- after the kind and before the next record
  pub field : of_field r ≡ true → (past < now) × (now < next_at book past)
  pub whole : of_field r ≡ false → now ≡ past

pub data Alike (book : List ℕ) {A : Type 0} : (past now : Checked A) → Type 0 where
  both-accept : {a : A} → Alike book (accepted a) (accepted a)
  both-refuse : {r : Refusal} {past now : ℕ} → Told book r past now → Alike book (refused r past) (refused r now)
