-- A scan that keeps the greatest number so far, and takes a new one only where it is greater, ends at the smallest index that reaches the greatest.
use Prim.Native.Nat.{ℕ, suc, ◌+◌, ◌≤◌, ◌<◌}
use mathlib.Core.Bool.{Bool, true, false, true≢false}
use mathlib.Core.Logic.{◌⊎◌, ⊎_elim}
use mathlib.Core.Path.{◌≡◌, refl, sym, ◌∙◌}
use native.Mathlib.Numerals.{add-one}
use native.Mathlib.Omega.{arith}
use borrow.Author.Tests.{eq-eqb, ne_eqb, eqb-false}
use Rattle.laws.specs.Sums.{greatest}
use Rattle.std.specs.Prelude.{if◌then◌else◌}
use Rattle.laws.specs.Tests.{◌is◌, first}
use Rattle.laws.proofs.Sums.{at_most, greatest-reached}
use Rattle.laws.proofs.Tests.{lt-or-ge, first-from, first_to, first_holds, first-before, first-none, first-is}

-- the smallest of 1, .., n at which f reaches its greatest; 0 where that is 0
unfoldable pub reaching : (ℕ → ℕ) → ℕ → ℕ
reaching f n = if greatest f n is 0 then 0 else first (λ i. f i is greatest f n) 1 n

-- after f 1, .., f n
pub record Scanned (f : ℕ → ℕ) (n highest reached : ℕ) : Type 0 where
  pub highest-is : highest ≡ greatest f n
  pub reached-is : reached ≡ reaching f n

pub scanned-none : (f : ℕ → ℕ) → Scanned f 0 0 0
unfolding greatest reaching
scanned-none f = record { highest-is = refl; reached-is = refl }

module _ (f : ℕ → ℕ) (n : ℕ) where
  greater-there : greatest f n < f (suc n) → first (λ i. f i is f (suc n)) 1 (suc n) ≡ suc n
  greater-there l =
      first-is (λ i. f i is f (suc n)) 1 (suc n) (suc n) (omega arith) (omega arith) (eq-eqb (f (suc n)) _ refl)
      (λ j p m. ne_eqb (f j) (f (suc n)) (λ (e : f j ≡ f (suc n)). omega (arith, at_most f n j p (omega arith))))

  -- a greatest that is not 0 is reached before the end
  reached-before : (greatest f n ≡ 0 → ⊥) → first (λ i. f i is greatest f n) 1 n < 1 + n
  reached-before some = by (lt-or-ge (first p 1 n) (1 + n))
    where
      p : ℕ → Bool
      p i = f i is greatest f n

      never : first p 1 n ≡ 1 + n → (i : ℕ) × (0 < i) × (i ≤ n) × (f i ≡ greatest f n) → ⊥
      never e r = true≢false (sym (eq-eqb _ _ r.3) ∙ first-none p 1 n e r.0 r.1 (omega (arith, r.2)))

      by : (first p 1 n < 1 + n) ⊎ (1 + n ≤ first p 1 n) → first p 1 n < 1 + n
      by = ⊎_elim (λ l. l) (λ l. absurd (⊎_elim some (never (omega (arith, first_to p 1 n))) (greatest-reached f n)))

  same-there : (greatest f n ≡ 0 → ⊥) → first (λ i. f i is greatest f n) 1 (suc n) ≡ first (λ i. f i is greatest f n) 1 n
  same-there some =
      let p : ℕ → Bool = λ i. f i is greatest f n in
      let l = reached-before some in
      first-is p 1 (suc n) (first p 1 n) (first-from p 1 n) (omega arith) (first_holds p 1 n l) (first-before p 1 n)

-- one number more, x, as a loop has it
module _ {f : ℕ → ℕ} {n highest reached : ℕ} (s : Scanned f n highest reached) (x : ℕ) (is-next : x ≡ f (n + 1)) where
  pub scanned-greater : highest < x → Scanned f (n + 1) x (n + 1)
  unfolding greatest reaching
  scanned-greater l =
      let next : x ≡ f (suc n) = rw add-one at is-next in
      let above : greatest f n < f (suc n) = omega (arith, s.highest-is) in
      let e : greatest f (suc n) ≡ f (suc n) = omega arith in
      rw add-one (record { highest-is = next ∙ sym e; reached-is = sym (rw (e, ne_eqb (f (suc n)) 0 (omega arith)) (greater-there f n above)) })

  pub scanned-same : x ≤ highest → Scanned f (n + 1) highest reached
  unfolding greatest reaching
  scanned-same l =
      let next : x ≡ f (suc n) = rw add-one at is-next in
      let e : greatest f (suc n) ≡ greatest f n = omega (arith, s.highest-is) in
      rw add-one (record { highest-is = s.highest-is ∙ sym e; reached-is = s.reached-is ∙ sym (rw e (by (greatest f n is 0) refl)) })
    where
      by : (b : Bool) → (greatest f n is 0) ≡ b
          → (if b then 0 else first (λ i. f i is greatest f n) 1 (suc n)) ≡ (if b then 0 else first (λ i. f i is greatest f n) 1 n)
      by true e = refl
      by false e = same-there f n (eqb-false _ _ e)
