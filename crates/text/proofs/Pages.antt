-- What methods write on a page one after the other, and what stands in the room that a page was made of.
use Prim.Native.Nat.{ℕ, ◌+◌, ◌-◌, ◌≤◌}
use mathlib.Core.List.{List, [], ◌++◌}
use mathlib.Core.Path.{◌≡◌, refl, ap, ◌∙◌}
use native.Mathlib.Omega.{arith}
use lib.ListN.{length, drop}
use Rattle.laws.specs.Lists.{splice}
use Rattle.laws.proofs.Sections.{length-section, length-splice}
use Rattle.text.specs.declared.page.Page.{Page}
use Rattle.text.specs.Written.{written, Wrote}
use Rattle.text.specs.Pages.{Adds}
use Rattle.text.proofs.Writing.{wrote_none, wrote_then, wrote-first}

pub adds_none : (page : Page) → Adds [] page page
adds_none page = record { wrote = wrote_none page.written page.room.now; same_length = refl; same_room = refl }

pub adds_then : {s t : List ℕ} {a b c : Page} → Adds s a b → Adds t b c → Adds (s ++ t) a c
adds_then f g = record {
  wrote = wrote_then f.wrote g.wrote;
  same_length = g.same_length ∙ f.same_length;
  same_room = g.same_room ∙ f.same_room;
}

-- a part of the room that a text is copied into
pub copied : (at : ℕ) (text part room : List ℕ) → part ≡ text → Wrote text at room (at + length text) (splice at (at + length text - at) room part)
unfolding written
copied at text part room e =
    let count : at + length text - at ≡ length text = omega arith in
    record { next-is = refl; after_is = rw (count, e) }

pub copied-length : (at : ℕ) (text part room : List ℕ) → part ≡ text → at + length text ≤ length room
    → length (splice at (at + length text - at) room part) ≡ length room
copied-length at text part room e h =
    let count : at + length text - at ≡ length text = omega arith in
    rw count (length-splice at (length text) room part (rw (length-section at (length text) room h) (ap length e)))

-- what stands on a page that was new, when the room is given back
pub on-new-page : {text l m : List ℕ} {new after : Page} {count most : ℕ} → Adds text new after → new.written ≡ 0 → new.room.now ≡ l → count ≡ after.written → length text ≤ most → m ≡ after.room.now
    → ((count ≡ length text) × (count ≤ most)) × (m ≡ text ++ drop count l)
on-new-page {text} {l} {m} {new} {after} {count} {most} f none same counted short left =
    let first = wrote-first (rw none at f.wrote) in
    let length_is = counted ∙ first.0 in
    ((length_is, rw length_is short), rw (counted, left, ← same) first.1)

-- what stands in a room whose page was begun at a place, when the room is given back
pub on_begun_page : {text l m : List ℕ} {begun after : Page} {at count : ℕ} → Adds text begun after → begun.written ≡ at → begun.room.now ≡ l → count ≡ after.written → m ≡ after.room.now
    → Wrote text at l count m
on_begun_page f so_far same counted left = rw (← so_far, ← same, counted, left) f.wrote
