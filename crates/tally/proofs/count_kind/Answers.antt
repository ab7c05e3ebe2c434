-- A store of one more is one joined at its place.
use native.Mathlib.Omega.{arith}
use Prim.Native.Nat.{ℕ, ◌-◌, ◌≤◌, ◌<◌}
use mathlib.Core.List.{List}
use mathlib.Core.Path.{◌≡◌, refl}
use borrow.Author.Tests.{eq-eqb, ne_eqb}
use lib.IntN.{ℤ, pos, nat_abs, ◌+ℤ◌, +ℤ_idr}
use lib.ListN.{length, get_or, set}
use mir.Facts.{to_z-of_z}
use mir.Syntax.{w64}
use mir.Val.{to_z, of_z}
use Rattle.laws.proofs.Integers.{abs-add}
use Rattle.laws.proofs.Widths.{sfits-abs}
use Rattle.laws.proofs.Joins.{joined-none, joined-set}
use Rattle.paper.specs.TurnedDown.{longest_book}
use Rattle.arrays.specs.Slots.{plus_ℤ}
use Rattle.kinds.specs.Kind.{kind_number}
use Rattle.kinds.proofs.Numbers.{tag-number}
use Rattle.tally.proofs.Counting.{one, kind-of-ten}
use Rattle.tally.proofs.count_kind.Goals as goal

set-one : (kind : ℕ) (l : List ℤ) → kind - 1 < length l → set l (kind - 1) (get_or l (kind - 1) (pos 0) +ℤ pos 1) ≡ plus_ℤ l (one kind)
set-one kind l h =
    let k = kind - 1 in
    rw (joined-none ◌+ℤ◌ (pos 0) +ℤ_idr l (λ j. pos 0) (λ j o. refl)) at
    (joined-set ◌+ℤ◌ (pos 0) +ℤ_idr l (λ j. pos 0) (one kind) k (pos 1) h refl (rw (eq-eqb k k refl)) (λ j n. rw (ne_eqb j k n)))

pub returns : goal.returns
returns c =
    let l = c.args.counts.now in
    let kind = kind_number c.args.kind in
    let k = kind - 1 in
    let old = get_or l k (pos 0) in
    let small : nat_abs old ≤ longest_book = c.requires.few k in
    let fits = sfits-abs {w = w64} (old +ℤ pos 1) (omega (arith, abs-add old (pos 1), small)) in
    let more : to_z w64 (of_z w64 (to_z w64 (of_z w64 old) +ℤ pos 1)) ≡ old +ℤ pos 1 = rw (to_z-of_z (sfits-abs {w = w64} old (omega (arith, small)))) (to_z-of_z fits) in
    rw (tag-number c.args.kind, more) (set-one kind l (omega (arith, kind-of-ten c.args.kind)))
