-- What a list that was looked up tells of a body.
use Prim.Native.Nat.{ℕ, ◌+◌}
use mathlib.Core.Bool.{Bool, true, false, not}
use mathlib.Core.List.{List}
use mathlib.Core.Logic.{⊎_elim}
use mathlib.Core.Path.{◌≡◌, refl, sym, ap}
use native.Mathlib.Omega.{arith}
use borrow.Author.Tests.{not-false, leb-true}
use lib.ListN.{length}
use Rattle.std.specs.Prelude.{Some, None, if◌then◌else◌}
use Rattle.std.specs.Option.{ok_or}
use Rattle.laws.specs.Tests.{◌up_to◌, ◌below◌}
use Rattle.laws.proofs.Tests.{lt-or-ge, and-true}
use Rattle.paper.specs.declared.Refusal.TheVariants.{UnknownEdition, CodeNotListed}
use Rattle.paper.specs.Refusals.{accepted, refused, ◌>>◌, unless, refuse_if, fault, result_of}
use Rattle.paper.specs.Published.{Entry, line_of, list_of, shocks_for}
use Rattle.paper.specs.TurnedDown.{unknown_edition, code_not_listed}
use Rattle.paper.specs.Fields.{byte, three, listed_at}
use Rattle.fields.specs.Answers.{as_it_is}
use Rattle.published.specs.Lines.{listed_in}

-- an arm's line is that of its key
pub line : (list : List Entry) {code key : ℕ} → code ≡ key → listed_in list key ≡ listed_in list code
line list e = ap (λ (k : ℕ). listed_in list k) (sym e)

-- the edition has this list: it has the code, or not
pub looked : (body : List ℕ) (o edition : ℕ) (list : List Entry) → byte body o ≡ edition → unknown_edition edition ≡ false → list_of edition ≡ list
    → result_of as_it_is (listed_at body o) ≡ ok_or (listed_in list (three body (o + 1))) (fault CodeNotListed 0)
unfolding listed_at unless ◌>>◌ code_not_listed listed_in
looked body o edition list named good lists = rw (named, good, lists) (by (line_of list code below length list))
  where
    code : ℕ
    code = three body (o + 1)

    by : (b : Bool) → result_of as_it_is (refuse_if (not b) CodeNotListed 0 >> accepted (shocks_for list code)) ≡ ok_or (if b then Some (shocks_for list code) else None) (fault CodeNotListed 0)
    by true = refl
    by false = refl

-- neither edition
pub no-edition : (body : List ℕ) (o : ℕ) → (byte body o ≡ 1 → ⊥) → (byte body o ≡ 2 → ⊥) → listed_at body o ≡ refused UnknownEdition 0
unfolding listed_at unless ◌>>◌ unknown_edition
no-edition body o first second = by (unknown_edition (byte body o)) refl
  where
    by : (b : Bool) → unknown_edition (byte body o) ≡ b → listed_at body o ≡ refused UnknownEdition 0
    by true t = rw t
    by false f =
        let both = and-true (1 up_to byte body o) (byte body o up_to 2) (not-false _ f) in
        let low = leb-true 1 (byte body o) both.0 in
        let high = leb-true (byte body o) 2 both.1 in
        ⊎_elim (λ less. absurd (first (omega (arith, low)))) (λ more. absurd (second (omega (arith, high)))) (lt-or-ge (byte body o) 2)
