-- What the `_` of a `match` on a code tells of a list, however long: the list has no line for the code.
use Prim.Native.Nat.{ℕ, zero, suc, ◌≤◌, ◌<◌}
use mathlib.Core.List.{List, [], ◌∷◌}
use mathlib.Core.Path.{◌≡◌, sym, ap}
use native.Mathlib.Omega.{arith}
use borrow.Author.Tests.{ne_eqb, le-ltb}
use lib.ListN.{length, get_or-eq_default}
use Rattle.std.specs.Prelude.{None}
use Rattle.laws.specs.Tests.{◌is◌}
use Rattle.laws.proofs.Tests.{none_first}
use Rattle.paper.specs.Published.{Entry, unlisted, code_at, line_of, shocks_for}
use Rattle.published.specs.Lines.{listed_in}

-- none of the entries, one after the other
abbrev pub NotIn : Type 0 → List Entry → ℕ → Type 0
NotIn P [] code = P
NotIn P (e ∷ es) code = NotIn (P × (code ≡ e.code → ⊥)) es code

none_of : (list : List Entry) (code : ℕ) {P : Type 0} → NotIn P list code → P × ((j : ℕ) → j < length list → code_at list j ≡ code → ⊥)
none_of [] code h = (h, λ j l. absurd (omega arith))
none_of (e ∷ es) code {P} h = let rest = none_of es code h in (rest.0.0, differs rest)
  where
    differs : (P × (code ≡ e.code → ⊥)) × ((j : ℕ) → j < length es → code_at es j ≡ code → ⊥) → (j : ℕ) → j < suc (length es) → code_at (e ∷ es) j ≡ code → ⊥
    differs rest zero l same = rest.0.1 (sym same)
    differs rest (suc j) l same = rest.1 j (omega arith) same

past_end : (list : List Entry) (code : ℕ) → NotIn Unit list code → length list ≤ line_of list code
unfolding line_of
past_end list code h =
    let past = none_first (λ j. code_at list j is code) 0 (length list) (λ j m l. ne_eqb (code_at list j) code ((none_of list code h).1 j (omega arith))) in
    omega (arith, past)

pub not_listed : (list : List Entry) (code : ℕ) → NotIn Unit list code → (listed_in list code ≡ None) × (shocks_for list code ≡ unlisted.shocks)
unfolding listed_in shocks_for
not_listed list code h =
    let past = past_end list code h in
    (rw (le-ltb _ _ past), ap (λ (e : Entry). e.shocks) (get_or-eq_default list unlisted {n = line_of list code} past))
