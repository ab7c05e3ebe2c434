-- What a method writes on a page: after what stands there, in the same room.
use Rattle.std.specs.Prelude.{ℕ, ◌+◌, ◌≤◌, List, ◌≡◌, length}
use Rattle.text.specs.declared.page.Page.{Page}
use Rattle.text.specs.Written.{Wrote}

-- so many bytes more fit
abbrev pub HasRoom : ℕ → Page → Type 0
HasRoom n page = page.written + n ≤ length page.room.now

pub record Adds (text : List ℕ) (before after : Page) : Type 0 where
  pub wrote : Wrote text before.written before.room.now after.written after.room.now
  pub same_length : length after.room.now ≡ length before.room.now
  pub same_room : after.room.ghost_name ≡ before.room.ghost_name
