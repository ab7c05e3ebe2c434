-- One byte is a store at its place.
use mathlib.Core.Path.{refl}
use borrow.Author.Rules.{rules}
use lib.ListN.{length-set}
use Rattle.text.proofs.Writing.{wrote-byte}
use Rattle.text.proofs.page.Page.byte.Goals as goal

pub returns : goal.returns
returns c = record { wrote = wrote-byte _ _ _ (search rules); same_length = search (rules, length-set); same_room = refl }
