-- What `contains` answers at a closed range, in the paper's tests.
use Prim.Native.Nat.{ℕ}
use mathlib.Core.Bool.{Bool, true, false, not, cond, ◌&&◌, ◌||◌}
use mathlib.Core.Path.{◌≡◌, refl}
use native.Mathlib.Omega.{arith}
use lib.IntN.{ℤ, pos, negsuc}
use lib.Dec.{leb, ltb}
use lib.Signed.{lt_z}
use Rattle.std.specs.declared.cmp.Ordering.{Ordering}
use Rattle.std.specs.Ordering.{nat_cmp, int_cmp, is_le, as_partial_cmp, partial_le, partial_lt}
use Rattle.std.proofs.lemmas.Bool.Decides.{nat_tests}

-- as `contains` works it out, of a range's start and end and whether it is used up
abbrev contained : {A : Type 0} → (A → A → Ordering) → A → A → Bool → A → Bool
contained order low high spent x =
    let o = as_partial_cmp order in
    partial_le o low x && cond spent (partial_lt o x high) (partial_le o x high)

nat-le : (x y : ℕ) → is_le (nat_cmp x y) ≡ leb x y
nat-le x y = grind (arith, nat_tests)

int-le : (x y : ℤ) → is_le (int_cmp x y) ≡ not (lt_z y x)
int-le (pos a) (pos b) = grind (arith, nat_tests)
int-le (pos a) (negsuc b) = refl
int-le (negsuc a) (pos b) = refl
int-le (negsuc a) (negsuc b) = grind (arith, nat_tests)

-- a number below the range or above it
either : (a b : Bool) → not (not a && not b) ≡ a || b
either true b = refl
either false true = refl
either false false = refl

pub nat-contained : {low high a b : ℕ} (x : ℕ) {spent : Bool} → a ≡ low → b ≡ high → spent ≡ false
    → contained nat_cmp a b spent x ≡ (leb low x && leb x high)
nat-contained {low} {high} x e f n = rw (e, f, n, nat-le low x, nat-le x high)

pub int-contained : {low high a b : ℤ} (x : ℤ) {spent : Bool} → a ≡ low → b ≡ high → spent ≡ false
    → not (contained int_cmp a b spent x) ≡ (lt_z x low || lt_z high x)
int-contained {low} {high} x e f n = rw (e, f, n, int-le low x, int-le x high) (either (lt_z x low) (lt_z high x))

-- and a test against a limit
pub above : (x most : ℕ) → not (leb x most) ≡ ltb most x
above x most = grind (arith, nat_tests)
