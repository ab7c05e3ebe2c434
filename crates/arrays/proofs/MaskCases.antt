-- The masks at their edges, by computation: the digit of the last currency, and all thirty-two.
use Prim.Native.Nat.{ℕ}
use mathlib.Core.Bool.{true, false}
use mathlib.Core.List.{[], ◌∷◌}
use mathlib.Core.Path.{◌≡◌, refl}
use Rattle.laws.specs.Tests.{first}
use Rattle.laws.specs.Digits.{bit, has}
use Rattle.arrays.specs.Masks.{curved_by, with_currency, lowest_missing}

-- all currencies, and all but the last
abbrev all : ℕ
all = 4294967295

abbrev but_last : ℕ
but_last = 2147483647

pub last-joins : with_currency but_last 32 ∷ with_currency all 32 ∷ with_currency 0 32 ∷ [] ≡ all ∷ all ∷ 2147483648 ∷ []
last-joins = refl

pub last-is-read : curved_by all 32 ∷ curved_by but_last 32 ∷ curved_by but_last 31 ∷ curved_by 2147483648 32 ∷ curved_by 2147483648 1 ∷ [] ≡ true ∷ false ∷ true ∷ true ∷ false ∷ []
unfolding curved_by has bit
last-is-read = refl

-- 33 where none is missing
pub none-is-missing : lowest_missing (record { used = all; curved = all }) ∷ lowest_missing (record { used = 0; curved = all }) ∷ lowest_missing (record { used = all; curved = but_last })
    ∷ lowest_missing (record { used = all; curved = 0 }) ∷ [] ≡ 33 ∷ 33 ∷ 32 ∷ 1 ∷ []
unfolding lowest_missing first has bit
none-is-missing = refl
