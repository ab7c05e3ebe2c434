-- The book is walked record by record, first byte to last. Its outcome is the list of the records kept, or the first refusal with its place.
use Rattle.std.specs.Prelude.{ℕ, zero, suc, ◌+◌, Bool, ◌||◌, List, [], ◌∷◌, ◌++◌, ℤ, pos, length, take, drop, replicate, if◌then◌else◌}
use Rattle.laws.specs.Tests.{◌is◌, ◌up_to◌, first}
use Rattle.paper.specs.declared.Refusal.{Refusal}
use Rattle.paper.specs.declared.Refusal.TheVariants.{UnknownKind, CutShort, OverLimit, NoCurve, BadCapital, BookTooLong, RoomTooSmall}
use Rattle.paper.specs.Refusals.{number_of, Checked, accepted, refused, ◌>>=◌, ◌>>◌, unless, refuse_if}
use Rattle.paper.specs.Records.{Record, body_length}
use Rattle.paper.specs.Ledger.{totals, SoFar, so_far, cells, ledger_of, figures}
use Rattle.paper.specs.TurnedDown.{unknown_kind, cut_short, over_limit, lacks_curve, bad_capital, book_too_long, room_too_small}
use Rattle.paper.specs.Fields.{byte}
use Rattle.paper.specs.Decode.{decode}
use Rattle.paper.specs.Verdict.{report_of}

-- the place of a refusal, from that of the record and where in the record the field at fault begins; 0 where that is the record as a whole (02, request 2)
unfoldable pub placed : {A : Type 0} → ℕ → Checked A → Checked A
placed at (accepted a) = accepted a
placed at (refused r o) = refused r (at + o)

-- the place after the record at a place
unfoldable pub next_at : List ℕ → ℕ → ℕ
next_at book at = suc at + body_length (byte book at)

module _ (top : ℕ) where
  -- a whole body of a known kind: the fields as laid out and the rules of one record, then 14
  unfoldable pub admitted : SoFar → ℕ → List ℕ → Checked Record
  admitted before kind body = do
    r ← decode top before.curved kind body
    unless (over_limit before r) OverLimit 0 r

  -- in a record: 1, 2, then its body
  abbrev pub record_from : SoFar → List ℕ → ℕ → Checked Record
  record_from before book at =
      let kind = byte book at in
      do
        refuse_if (unknown_kind kind) UnknownKind 0
        refuse_if (cut_short kind at (length book)) CutShort 0
        admitted before kind (take (body_length kind) (drop (suc at) book))

  unfoldable pub record_at : SoFar → List ℕ → ℕ → Checked Record
  record_at before book at = placed at (record_from before book at)

  -- from a place to the end, after the records kept so far; the fuel is no less than the bytes left
  unfoldable pub walk_from : ℕ → List ℕ → ℕ → List Record → Checked (List Record)
  walk_from zero book at kept = accepted kept
  walk_from (suc fuel) book at kept =
      if length book up_to at then accepted kept else
      (record_at (so_far kept) book at >>= (λ r. walk_from fuel book (next_at book at) (kept ++ (r ∷ []))))

  unfoldable pub walk : List ℕ → Checked (List Record)
  walk book = walk_from (length book) book 0 []

  -- 15: after the last record; its place is the lowest currency used without a curve
  unfoldable pub covered : List Record → Checked (List Record)
  covered kept =
      let c = first (lacks_curve kept) 1 top in
      unless (c up_to top) NoCurve c kept

  -- the order: 18, 17, 16, then the records in turn, then 15
  unfoldable pub outcome : List ℕ → ℕ → (report_room ledger_room : ℕ) → Checked (List Record)
  outcome book T report_room ledger_room = do
    refuse_if (room_too_small top report_room ledger_room) RoomTooSmall 0
    refuse_if (book_too_long (length book)) BookTooLong 0
    refuse_if (bad_capital T) BadCapital 0
    kept ← walk book
    covered kept

-- ---- what the report and the ledger hold at exit; cells beyond 202 and 4,256 are untouched

-- 16, 17 and 18 touch nothing
unfoldable pub touches_nothing : Refusal → Bool
touches_nothing r = number_of r is number_of BadCapital || number_of r is number_of BookTooLong || number_of r is number_of RoomTooSmall

unfoldable pub report_after : ℕ → Checked (List Record) → ℕ → List ℤ → List ℤ
report_after top (accepted kept) T report = report_of top (totals kept) T ++ drop (figures top) report
report_after top (refused r place) T report = report

unfoldable pub ledger_after : ℕ → Checked (List Record) → List ℤ → List ℤ
ledger_after top (accepted kept) ledger = ledger_of top (totals kept).cell ++ drop (cells top) ledger
ledger_after top (refused r place) ledger =
    if touches_nothing r then ledger else (replicate (cells top) (pos 0) ++ drop (cells top) ledger)
