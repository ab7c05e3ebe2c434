-- The lines of each currency with a curve: a turn of the loop that writes them, how many bytes they are, and that sets and lines which agree on the currencies print alike.
use Prim.Native.Nat.{ℕ, zero, suc, ◌+◌, ◌*◌, ◌-◌, ◌≤◌}
use mathlib.Core.Bool.{Bool, true, false}
use mathlib.Core.List.{List, [], ◌++◌}
use mathlib.Core.Path.{◌≡◌, refl, ap₂}
use native.Mathlib.Nat.{mul_comm, suc-mul}
use native.Mathlib.Omega.{arith}
use lib.ListN.{length, length-append}
use Rattle.std.specs.Prelude.{if◌then◌else◌}
use Rattle.paper.specs.Program.{curved_lines}

module _ (curved : ℕ → Bool) (text : ℕ → List ℕ) where
  pub lines_more : (c : ℕ) → 1 ≤ c → curved_lines curved text (c + 1 - 1) ≡ curved_lines curved text (c - 1) ++ (if curved c then text c else [])
  unfolding curved_lines
  lines_more zero h = absurd (omega arith)
  lines_more (suc n) h =
      let here : suc n + 1 - 1 ≡ suc n = omega arith in
      let last : suc n - 1 ≡ n = omega arith in
      rw (here, last)

  pub lines-length : (most : ℕ) → ((c : ℕ) → length (text c) ≤ most) → (n : ℕ) → length (curved_lines curved text n) ≤ most * n
  unfolding curved_lines
  lines-length most each zero = omega arith
  lines-length most each (suc n) =
      omega (arith, lines-length most each n, by (curved (suc n)), length-append (curved_lines curved text n) (if curved (suc n) then text (suc n) else []), suc-mul n most, mul_comm most n, mul_comm most (suc n))
    where
      by : (b : Bool) → length (if b then text (suc n) else []) ≤ most
      by true = each (suc n)
      by false = omega arith

pub lines-alike : (p q : ℕ → Bool) (text other : ℕ → List ℕ) (n : ℕ) → ((c : ℕ) → 1 ≤ c → c ≤ n → p c ≡ q c) → ((c : ℕ) → 1 ≤ c → c ≤ n → text c ≡ other c)
    → curved_lines p text n ≡ curved_lines q other n
unfolding curved_lines
lines-alike p q text other zero e f = refl
lines-alike p q text other (suc n) e f =
    ap₂ (λ (l m : List ℕ). l ++ m) (lines-alike p q text other n (λ c l h. e c l (omega arith)) (λ c l h. f c l (omega arith)))
    (ap₂ (λ (b : Bool) (l : List ℕ). if b then l else []) (e (suc n) (omega arith) (omega arith)) (f (suc n) (omega arith) (omega arith)))
