-- `signed_at` meets its contract: 32 bits read as signed, and held in 64.
use Prim.Native.Nat.{ℕ, ◌<◌}
use mathlib.Core.Path.{◌≡◌, ap, ◌∙◌}
use borrow.Author.Tests.{lt-ltb}
use mir.Syntax.{w32, w64}
use mir.Val.{to_z}
use Rattle.laws.proofs.Widths.{back}
use Rattle.paper.specs.Fields.{signed}
use Rattle.fields.proofs.bytes.signed_at.Goals as goal

as-signed : (n : ℕ) → n < 4294967296 → to_z w32 n ≡ signed n
unfolding signed
as-signed n l = rw (lt-ltb _ _ l)

pub returns : goal.returns
returns c =
    back w64 _ c.from.type_inv ∙ c.from.ensures ∙ back w32 _ c.cast_signed.type_inv ∙ c.cast_signed.ensures
    ∙ as-signed _ c.four_at.type_inv ∙ ap signed c.four_at.ensures
