-- What stands at a place of the book.
use Rattle.std.specs.Prelude.{ℕ, ◌-◌, List, ◌≡◌, length, Option, Some, None, Result, Ok, Err, if◌then◌else◌}
use Rattle.std.specs.Iterator.{Count, at_most}
use Rattle.laws.specs.Tests.{◌up_to◌}
use Rattle.paper.specs.declared.Fault.{Fault}
use Rattle.paper.specs.declared.Refusal.TheVariants.{UnknownKind, CutShort}
use Rattle.paper.specs.Refusals.{fault}
use Rattle.paper.specs.TurnedDown.{unknown_kind, cut_short}
use Rattle.paper.specs.Fields.{byte}
use Rattle.paper.specs.Book.{next_at}
use Rattle.kinds.specs.Kind.{kind_of}
use Rattle.reader.specs.declared.Reader.{Reader}
use Rattle.reader.specs.declared.Found.{Found}

-- nothing at the end, 1, 2, or a record: its kind, where it begins, and where it ends
unfoldable pub stands_at : List ℕ → ℕ → Option (Result Found Fault)
stands_at book at =
    let kind = byte book at in
    if length book up_to at then None else
    if unknown_kind kind then Some (Err (fault UnknownKind at)) else
    if cut_short kind at (length book) then Some (Err (fault CutShort at)) else
    Some (Ok (record { kind = kind_of kind; at = at; next = next_at book at }))

-- the place to read at next: past a record; after a refusal the book's end, so that nothing more comes
abbrev pub place_after : List ℕ → ℕ → Option (Result Found Fault) → ℕ
place_after book at None = at
place_after book at (Some (Ok found)) = found.next
place_after book at (Some (Err f)) = length book

-- what a reader gives, and where it is then
abbrev pub Reads : Reader → Option (Result Found Fault) → Reader → Type 0
Reads r given r' = (given ≡ stands_at r.book.now r.at) × (r'.book ≡ r.book) × (r'.at ≡ place_after r.book.now r.at given)

abbrev pub bytes_left : Reader → Count
bytes_left r = at_most (length r.book.now - r.at)
