-- The verdict's word by the tests of the code, and how many bytes its line is.
use Prim.Native.Nat.{ℕ, ◌≤◌}
use mathlib.Core.Bool.{Bool, true, false}
use mathlib.Core.List.{[], ◌∷◌, ◌++◌}
use mathlib.Core.Path.{◌≡◌, refl}
use native.Mathlib.Omega.{arith}
use borrow.Author.Tests.{ne_eqb}
use lib.IntN.{ℤ, pos, negsuc}
use lib.ListN.{length, length-append}
use mir.Syntax.{w64}
use mir.Val.{of_z}
use Rattle.std.specs.Prelude.{if◌then◌else◌}
use Rattle.laws.specs.Tests.{◌is◌}
use Rattle.paper.specs.Program.{verdict_word}

-- neither 1 nor 2
pub word-close : (z : ℤ) → (of_z w64 z ≡ 1 → ⊥) → (of_z w64 z ≡ 2 → ⊥) → verdict_word z ≡ 67 ∷ 76 ∷ 79 ∷ 83 ∷ 69 ∷ []
unfolding verdict_word
word-close (pos n) h k = rw (ne_eqb n 1 h, ne_eqb n 2 k)
word-close (negsuc n) h k = refl

word-length : (z : ℤ) → length (verdict_word z) ≤ 6
unfolding verdict_word
word-length (pos n) = by (n is 1) (n is 2)
  where
    by : (over within : Bool)
        → length {A = ℕ}
        (if over then 79 ∷ 86 ∷ 69 ∷ 82 ∷ [] else
        if within then 87 ∷ 73 ∷ 84 ∷ 72 ∷ 73 ∷ 78 ∷ [] else
        67 ∷ 76 ∷ 79 ∷ 83 ∷ 69 ∷ []) ≤ 6
    by true within = omega arith
    by false true = omega arith
    by false false = omega arith
word-length (negsuc n) = omega arith

pub verdict-length : (z : ℤ) → length (86 ∷ 32 ∷ verdict_word z ++ (10 ∷ [])) ≤ 9
verdict-length z = omega (arith, word-length z, length-append (verdict_word z) (10 ∷ []))
