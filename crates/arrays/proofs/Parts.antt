-- A record joined to its currency's part is joined to the whole: one law for every array, over the width of a part.
use Prim.Native.Nat.{ℕ, suc, ◌+◌, ◌*◌, ◌-◌, ◌/◌, ◌%◌, ◌≤◌, ◌<◌}
use mathlib.Core.Bool.{Bool, true, false, ◌&&◌}
use mathlib.Core.List.{List}
use mathlib.Core.Logic.{◌⊎◌, inl, inr}
use mathlib.Core.Path.{◌≡◌, refl, sym, ap, ◌∙◌}
use native.Mathlib.Nat.{div-add-mod, mod-lt, div-eq_of_lt, mul-add-div, mul-le-mul_left}
use native.Mathlib.Omega.{arith}
use lib.ListN.{length}
use borrow.Author.Tests.{eqb-true, eq-eqb, ne_eqb, le-leb, lt-leb, lt-ltb, le-ltb}
use Rattle.std.specs.Prelude.{if◌then◌else◌}
use Rattle.laws.specs.Tests.{◌is◌, ◌up_to◌, ◌below◌}
use Rattle.laws.specs.Lists.{tabulate, joined}
use Rattle.laws.proofs.Tests.{lt-or-ge}
use Rattle.laws.proofs.Lists.{tabulate-length, tabulate-ext}
use Rattle.laws.proofs.Joins.{joined-section, joined-tabulate}
use Rattle.paper.specs.Records.{currencies}
use Rattle.arrays.specs.Arrays.{by_currency, part_of, put_back}

-- ---- places: which of the whole lie in the part of the currency c

-- the start of a part, and the place within it
pub start_is : (width c j : ℕ) → c ≡ suc (j / width) → width * (c - 1) + j % width ≡ j
start_is width c j e =
    let q : c - 1 ≡ j / width = omega arith in
    ap (λ (n : ℕ). width * n + j % width) q ∙ div-add-mod j width

-- a place outside belongs to another currency
other-part : (width c j : ℕ) → 0 < width → 1 ≤ c → (width * (c - 1) ≤ j → j < width * (c - 1) + width → ⊥) → c ≡ suc (j / width) → ⊥
other-part width c j w l out e =
    let s = start_is width c j e in
    out (omega arith) (omega (arith, mod-lt j w))

-- a place inside belongs to this one
this-part : (width c j : ℕ) → 0 < width → 1 ≤ c → width * (c - 1) ≤ j → j < width * (c - 1) + width → c ≡ suc (j / width)
this-part width c j w l h k =
    let a : ℕ = width * (c - 1) in
    let whole : a + (j - a) ≡ j = omega arith in
    let none : (j - a) / width ≡ 0 = div-eq_of_lt (omega arith) in
    let quotient : j / width ≡ c - 1 + 0 = ap (λ (n : ℕ). n / width) (sym whole) ∙ mul-add-div w (c - 1) (j - a) ∙ ap (λ (n : ℕ). c - 1 + n) none in
    omega arith

-- the test of a part is the test of the currency
pub part-test : (width c j : ℕ) → 0 < width → 1 ≤ c → (width * (c - 1) up_to j && j below width * (c - 1) + width) ≡ (c is suc (j / width))
part-test width c j w l = by (lt-or-ge j a) (lt-or-ge j (a + width))
  where
    a : ℕ
    a = width * (c - 1)

    by : (j < a) ⊎ (a ≤ j) → (j < a + width) ⊎ (a + width ≤ j) → (a up_to j && j below a + width) ≡ (c is suc (j / width))
    by (inl h) k = rw (lt-leb a j h, ne_eqb c (suc (j / width)) (other-part width c j w l (λ p q. omega arith)))
    by (inr h) (inl k) = rw (le-leb a j h, lt-ltb j (a + width) k, eq-eqb c (suc (j / width)) (this-part width c j w l h k))
    by (inr h) (inr k) = rw (le-leb a j h, le-ltb j (a + width) k, ne_eqb c (suc (j / width)) (other-part width c j w l (λ p q. omega arith)))

-- ---- one record more

-- the part of the currency c replaced by what f makes of it
abbrev pub joined_part : {A : Type 0} → (List A → List A) → ℕ → ℕ → List A → List A
joined_part f width c l = put_back width c l (f (part_of width c l))

module _ {A : Type 0} (op : A → A → A) (d : A) (idr : (x : A) → op x d ≡ x) where
  pub part-more : (width c : ℕ) (g g' : ℕ → ℕ → A) (f : ℕ → A) → 0 < width → 1 ≤ c → c ≤ currencies
      → ((b j : ℕ) → j < width → g' b j ≡ op (g b j) (if c is b then f j else d))
      → by_currency width g' ≡ joined_part (λ part. joined op d part f) width c (by_currency width g)
  unfolding by_currency
  part-more width c g g' f w l h more =
      let n : ℕ = width * currencies in
      let a : ℕ = width * (c - 1) in
      let at : ℕ → A = λ j. g (suc (j / width)) (j % width) in
      let next : suc (c - 1) ≡ c = omega arith in
      let there : a + width ≤ length (tabulate at n) = omega (arith, tabulate-length at n, ap (λ (m : ℕ). width * m) next, mul-le-mul_left width h) in
      sym (joined-section op d idr a width (tabulate at n) f there
      ∙ joined-tabulate op d at (λ j. if a up_to j && j below a + width then f (j - a) else d) n
      ∙ tabulate-ext _ _ n (λ j o. same j))
    where
      same : (j : ℕ) → op (g (suc (j / width)) (j % width)) (if width * (c - 1) up_to j && j below width * (c - 1) + width then f (j - width * (c - 1)) else d) ≡ g' (suc (j / width)) (j % width)
      same j = sym (more (suc (j / width)) (j % width) (mod-lt j w) ∙ ap (op (g (suc (j / width)) (j % width))) (by (c is suc (j / width)) refl))
        where
          by : (b : Bool) → (c is suc (j / width)) ≡ b → (if b then f (j % width) else d) ≡ (if width * (c - 1) up_to j && j below width * (c - 1) + width then f (j - width * (c - 1)) else d)
          by true e =
              let s = start_is width c j (eqb-true c (suc (j / width)) e) in
              let inner : j - width * (c - 1) ≡ j % width = omega arith in
              rw (part-test width c j w l, e, inner)
          by false e = rw (part-test width c j w l, e)
