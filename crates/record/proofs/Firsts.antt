-- What a search for the first bucket at fault tells: that bucket, or that there is none.
use Prim.Native.Nat.{ℕ, ◌<◌}
use mathlib.Core.Bool.{Bool, true, false}
use mathlib.Core.Path.{◌≡◌, refl}
use borrow.Author.Tests.{ltb-true}
use Rattle.std.specs.Prelude.{Some, None}
use Rattle.std.specs.Bool.{then_some}
use Rattle.laws.specs.Tests.{◌below◌}

module _ (bucket n : ℕ) where
  pub some_first : {k : ℕ} → Some k ≡ then_some (bucket below n) bucket → (bucket ≡ k) × (k < n)
  some_first {k} = by (bucket below n) refl
    where
      by : (b : Bool) → (bucket below n) ≡ b → Some k ≡ then_some b bucket → (bucket ≡ k) × (k < n)
      by true t e = let same : bucket ≡ k = cc in (same, rw same at (ltb-true bucket n t))
      by false t e = cc

  pub no_first : None ≡ then_some (bucket below n) bucket → (bucket below n) ≡ false
  no_first = by (bucket below n)
    where
      by : (b : Bool) → None ≡ then_some b bucket → b ≡ false
      by true e = cc
      by false e = refl
