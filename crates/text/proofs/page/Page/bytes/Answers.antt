-- The text is copied into its part of the room.
use mathlib.Core.Path.{refl}
use Rattle.text.proofs.Pages.{copied, copied-length}
use Rattle.text.proofs.page.Page.bytes.Goals as goal

pub returns : goal.returns
returns c =
    let page = c.args.self.now in
    let text = c.args.text.now in
    let same = c.copy_from_slice.ensures.after in
    record {
      wrote = copied page.written text c.copy_from_slice.new.self page.room.now same;
      same_length = copied-length page.written text c.copy_from_slice.new.self page.room.now same c.requires;
      same_room = refl;
    }
