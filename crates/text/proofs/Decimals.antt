-- Numbers in decimal: the digits are those of the number's tenth, and one more; a sign goes before them; hundredths; and how many bytes that is.
use Prim.Native.Nat.{ℕ, zero, suc, ◌+◌, ◌/◌, ◌%◌, ◌^◌, ◌≤◌, ◌<◌}
use mathlib.Core.Bool.{Bool, true, false}
use mathlib.Core.List.{List, [], ◌∷◌, ◌++◌}
use mathlib.Core.Path.{◌≡◌, refl, sym, ap}
use native.Mathlib.Nat.{pow-suc}
use native.Mathlib.Omega.{arith}
use borrow.Author.Tests.{lt-ltb, le-ltb}
use lib.IntN.{ℤ, pos, negsuc, nat_abs}
use lib.ListN.{length, length-append}
use lib.Signed.{lt_z, mag}
use Rattle.std.specs.Fmt.{decimal as printed_decimal, signed_decimal as printed_signed_decimal}
use Rattle.std.proofs.lemmas.Fmt.{decimal_by_steps}
use Rattle.std.specs.Prelude.{if◌then◌else◌}
use Rattle.laws.specs.Tests.{◌below◌}
use Rattle.laws.proofs.Order.{lt_z-true, lt_z-false}
use Rattle.paper.specs.Program.{digits_of, decimal, with_sign, signed_decimal}
use Rattle.paper.specs.Detail.{pointed, pointed_line}

-- ---- the digits

-- where the digits have room, more room changes nothing
more_room : (most n : ℕ) → n < 10 ^ suc most → digits_of (suc (suc most)) n ≡ digits_of (suc most) n
unfolding digits_of
more_room zero n h = rw (lt-ltb n 10 h)
more_room (suc most) n h =
    ap (λ (front : List ℕ). if n below 10 then (48 + n) ∷ [] else (front ++ ((48 + n % 10) ∷ [])))
    (more_room most (n / 10) (omega (arith, pow-suc 10 (suc most))))

pub decimal_digit : (n : ℕ) → n < 10 → decimal n ≡ (48 + n) ∷ []
unfolding decimal digits_of
decimal_digit n h = rw (lt-ltb n 10 h)

pub decimal-more : (n : ℕ) → 10 ≤ n → n < 10 ^ 20 → decimal n ≡ decimal (n / 10) ++ ((48 + n % 10) ∷ [])
unfolding decimal digits_of
decimal-more n h m =
    rw (le-ltb n 10 h) (ap (λ (front : List ℕ). front ++ ((48 + n % 10) ∷ [])) (sym (more_room 18 (n / 10) (omega arith))))

digits-length : (most n : ℕ) → length (digits_of most n) ≤ most
unfolding digits_of
digits-length zero n = omega arith
digits-length (suc most) n = by (n below 10) (digits-length most (n / 10))
  where
    by : (b : Bool) → length (digits_of most (n / 10)) ≤ most
        → length (if b then (48 + n) ∷ [] else (digits_of most (n / 10) ++ ((48 + n % 10) ∷ []))) ≤ suc most
    by true h = omega arith
    by false h = omega (arith, length-append (digits_of most (n / 10)) ((48 + n % 10) ∷ []))

pub decimal-length : (n : ℕ) → length (decimal n) ≤ 20
unfolding decimal
decimal-length n = digits-length 20 n

-- of the twenty digits the last is left
pub front_length : (n : ℕ) → 10 ≤ n → n < 10 ^ 20 → length (decimal (n / 10)) ≤ 19
front_length n h m =
    omega (arith, decimal-length n, length-append (decimal (n / 10)) ((48 + n % 10) ∷ []), ap length (decimal-more n h m))

-- ---- the sign

module _ (text : ℕ → List ℕ) where
  pub sign_below : (z : ℤ) → lt_z z (pos 0) ≡ true → with_sign text z ≡ 45 ∷ text (nat_abs z)
  unfolding with_sign
  sign_below (pos n) t = absurd (omega (arith, lt_z-true (pos n) (pos 0) t))
  sign_below (negsuc n) t = refl

  pub sign-not-below : (z : ℤ) → lt_z z (pos 0) ≡ false → with_sign text z ≡ text (nat_abs z)
  unfolding with_sign
  sign-not-below (pos n) t = refl
  sign-not-below (negsuc n) t = absurd (omega (arith, lt_z-false (negsuc n) (pos 0) t))

  pub sign-length : (most : ℕ) → ((n : ℕ) → length (text n) ≤ most) → (z : ℤ) → length (with_sign text z) ≤ suc most
  unfolding with_sign
  sign-length most each (pos n) = omega (arith, each n)
  sign-length most each (negsuc n) = omega (arith, each (suc n))

pub signed-length : (z : ℤ) → length (signed_decimal z) ≤ 21
signed-length z = sign-length decimal 20 decimal-length z

-- ---- hundredths

pub pointed-length : (n : ℕ) → length (pointed n) ≤ 23
unfolding pointed
pointed-length n = omega (arith, decimal-length (n / 100), length-append (decimal (n / 100)) (46 ∷ (48 + n / 10 % 10) ∷ (48 + n % 10) ∷ []))

pub pointed-line-length : (letter : ℕ) (z : ℤ) → length (pointed_line letter z) ≤ 27
unfolding pointed_line
pointed-line-length letter z = omega (arith, sign-length pointed 23 pointed-length z, length-append (with_sign pointed z) (10 ∷ []))

-- ---- the library's text of a number

pub as_printed : (n : ℕ) → n < 2 ^ 64 → printed_decimal n ≡ decimal n
as_printed n h = decimal_by_steps (λ m text. m < 2 ^ 64 → text ≡ decimal m) one more n h h
  where
    one : (m : ℕ) → m < 10 → m < 2 ^ 64 → (48 + m) ∷ [] ≡ decimal m
    one m digit small = sym (decimal_digit m digit)

    more : (m : ℕ) (front : List ℕ) → 10 ≤ m → (m / 10 < 2 ^ 64 → front ≡ decimal (m / 10)) → m < 2 ^ 64 → front ++ ((48 + m % 10) ∷ []) ≡ decimal m
    more m front least tenth small = rw (decimal-more m least (omega arith), tenth (omega arith))

pub as_printed-signed : (z : ℤ) → mag z < 2 ^ 63 → printed_signed_decimal z ≡ signed_decimal z
unfolding with_sign
as_printed-signed (pos n) h = as_printed n (omega arith)
as_printed-signed (negsuc n) h = ap (λ (t : List ℕ). 45 ∷ t) (as_printed (suc n) (omega arith))
