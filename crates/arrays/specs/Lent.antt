-- The five arrays as a function is lent them: as its `requires` finds them, and in its `ensures` before it began and after it is done.
use Rattle.std.specs.Prelude.{ℕ, List, ℤ}
use Rattle.std.specs.Borrow.{MutBor}
use denote.Triple.Both.{Both}
use Rattle.arrays.specs.Arrays.{Arrays, arrays_as}

abbrev pub Lent : Type 0 → Type 0
Lent A = Both (MutBor (List A)) (MutBor (List A))

abbrev pub lent : (ledger rates add_ons : MutBor (List ℤ)) → (sizes option_sizes : MutBor (List ℕ)) → Arrays
lent ledger rates add_ons sizes option_sizes = arrays_as ledger.now rates.now add_ons.now sizes.now option_sizes.now

abbrev pub before : (ledger rates add_ons : Lent ℤ) → (sizes option_sizes : Lent ℕ) → Arrays
before ledger rates add_ons sizes option_sizes = lent ledger.entry rates.entry add_ons.entry sizes.entry option_sizes.entry

abbrev pub after : (ledger rates add_ons : Lent ℤ) → (sizes option_sizes : Lent ℕ) → Arrays
after ledger rates add_ons sizes option_sizes = lent ledger.exit rates.exit add_ons.exit sizes.exit option_sizes.exit
