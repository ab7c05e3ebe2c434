-- The items of a line: one after the other, and how many bytes they are.
use Prim.Native.Nat.{ℕ, ◌+◌, ◌*◌, ◌≤◌, ◌<◌}
use mathlib.Core.List.{List, [], ◌∷◌, ◌++◌, map, append_assoc, append-nil}
use mathlib.Core.Path.{◌≡◌, refl, sym, ap, ◌∙◌}
use native.Mathlib.Omega.{arith}
use lib.IntN.{ℤ, pos}
use lib.ListN.{length, get_or, take, length-append}
use Rattle.std.proofs.Common.{length-take-le}
use Rattle.std.proofs.lemmas.List.{length-map, map_more}
use Rattle.paper.specs.Program.{decimal, with_sign, signed_decimal, items, line}
use Rattle.text.proofs.Decimals.{signed-length}

pub items-append : (a b : List ℤ) → items (a ++ b) ≡ items a ++ items b
unfolding items
items-append [] b = refl
items-append (z ∷ a) b = ap (λ (l : List ℕ). 32 ∷ signed_decimal z ++ l) (items-append a b) ∙ sym (append_assoc (32 ∷ signed_decimal z) (items a) (items b))

pub item-signed : (z : ℤ) → items (z ∷ []) ≡ 32 ∷ signed_decimal z
unfolding items
item-signed z = append-nil (32 ∷ signed_decimal z)

pub item-natural : (n : ℕ) → items (pos n ∷ []) ≡ 32 ∷ decimal n
unfolding with_sign
item-natural n = item-signed (pos n)

pub items-length : (l : List ℤ) → length (items l) ≤ 22 * length l
unfolding items
items-length [] = omega arith
items-length (z ∷ l) = omega (arith, items-length l, signed-length z, length-append (signed_decimal z) (items l))

-- of numbers that stand in a slice: a turn of the loop over them, and how many bytes they are
module _ {A : Type 0} (number : A → ℤ) where
  pub items_more : (l : List A) (k : ℕ) (x : A) → k < length l → x ≡ get_or l k x
      → items (map number (take (k + 1) l)) ≡ items (map number (take k l)) ++ items (number x ∷ [])
  items_more l k x h e =
      ap (λ (zs : List ℤ). items zs) (map_more number l k x h ∙ ap (λ (y : A). map number (take k l) ++ number y ∷ []) (sym e))
      ∙ items-append (map number (take k l)) (number x ∷ [])

  pub mapped-length : (l : List A) → length (items (map number l)) ≤ 22 * length l
  mapped-length l = omega (arith, items-length (map number l), length-map l number)

  pub taken-length : (l : List A) (k : ℕ) → k ≤ length l → length (items (map number (take k l))) ≤ 22 * k
  taken-length l k h = omega (arith, mapped-length (take k l), length-take-le k l h)

-- a line whose first items are written apart from the others
pub line-of : (letter : ℕ) (heads numbers : List ℤ) → line letter (heads ++ numbers) ≡ letter ∷ items heads ++ (items numbers ++ (10 ∷ []))
unfolding line
line-of letter heads numbers =
    ap (λ (t : List ℕ). letter ∷ t ++ (10 ∷ [])) (items-append heads numbers) ∙ append_assoc (letter ∷ items heads) (items numbers) (10 ∷ [])

pub line-length : (letter : ℕ) (l : List ℤ) → length (line letter l) ≤ 22 * length l + 2
unfolding line
line-length letter l = omega (arith, items-length l, length-append (items l) (10 ∷ []))
