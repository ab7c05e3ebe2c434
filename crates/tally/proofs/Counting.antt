-- One record more among the counts: in its currency's part, or nowhere where it is of no kind or currency.
use Prim.Native.Nat.{ℕ, suc, ◌+◌, ◌*◌, ◌-◌, ◌/◌, ◌%◌, ◌≤◌}
use mathlib.Core.Bool.{Bool, true, false, ◌&&◌}
use mathlib.Core.List.{List, [], ◌∷◌, ◌++◌}
use mathlib.Core.Path.{◌≡◌, refl, sym, ap, ◌∙◌}
use native.Mathlib.Nat.{add-zero}
use native.Mathlib.Omega.{arith}
use borrow.Author.Tests.{eqb-true, eqb-false, eq-eqb, ne_eqb, ltb-true}
use lib.IntN.{ℤ, pos, ◌+ℤ◌, +ℤ_idr}
use Rattle.std.specs.Prelude.{if◌then◌else◌}
use Rattle.laws.specs.Tests.{◌is◌, ◌below◌, all}
use Rattle.laws.proofs.Tests.{all-at}
use Rattle.laws.proofs.Totals.{total-more}
use Rattle.laws.proofs.Lists.{tabulate-ext}
use Rattle.paper.specs.Records.{currencies, kinds, kind_count, body_length}
use Rattle.paper.specs.TurnedDown.{unknown_kind}
use Rattle.paper.specs.Fields.{byte}
use Rattle.paper.specs.Detail.{is_of, among}
use Rattle.paper.proofs.KindTable.{known-kind}
use Rattle.arrays.specs.Slots.{plus_ℤ}
use Rattle.arrays.specs.Arrays.{by_currency, part_of, put_back}
use Rattle.arrays.proofs.Parts.{part-more}
use Rattle.kinds.specs.declared.kind.Kind.{Kind}
use Rattle.kinds.specs.Kind.{kind_number}
use Rattle.kinds.proofs.Numbers.{number-known}
use Rattle.tally.specs.Counts.{counts_of}

-- ---- the kinds

each_long : all (λ k. 0 below body_length k) 1 kind_count ≡ true
unfolding all body_length kinds
each_long = refl

pub kind-long : (kind : ℕ) → 1 ≤ kind → kind ≤ kind_count → body_length kind ≡ 0 → ⊥
kind-long kind l h e = omega (arith, ltb-true 0 (body_length kind) (all-at (λ k. 0 below body_length k) 1 kind_count each_long kind l (omega arith)), e)

pub kind-of-ten : (kind : Kind) → (1 ≤ kind_number kind) × (kind_number kind ≤ kind_count)
unfolding unknown_kind
kind-of-ten kind = known-kind (kind_number kind) (eqb-false (body_length (kind_number kind)) 0 (number-known kind))

-- ---- one record more

abbrev pub one : ℕ → ℕ → ℤ
one kind j = if j is (kind - 1) then pos 1 else pos 0

-- the kind's own count of ten
same_kind : (kind j : ℕ) → 1 ≤ kind → (kind is suc j) ≡ (j is (kind - 1))
same_kind kind j l = by (kind is suc j) refl
  where
    by : (b : Bool) → (kind is suc j) ≡ b → b ≡ (j is (kind - 1))
    by true e = sym (eq-eqb j (kind - 1) (omega (arith, eqb-true kind (suc j) e)))
    by false e = sym (ne_eqb j (kind - 1) (λ u. other e (omega arith)))
      where
        other : (kind is suc j) ≡ false → kind ≡ suc j → ⊥
        other f u = let z : ◌≡◌ {A = Bool} true false = sym (eq-eqb kind (suc j) u) ∙ f in let y : ◌≡◌ {A = ℕ} 0 1 = cc in omega arith

module _ (book ps : List ℕ) (at : ℕ) where
  among-more : (c kind : ℕ) → among book (ps ++ (at ∷ [])) c kind ≡ among book ps c kind + (if is_of book c kind at then 1 else 0)
  unfolding among
  among-more c kind = total-more (λ p. if is_of book c kind p then 1 else 0) ps at

  pub none-counted : ((c kind : ℕ) → 1 ≤ c → c ≤ currencies → 1 ≤ kind → kind ≤ kind_count → is_of book c kind at ≡ false) → counts_of book ps ≡ counts_of book (ps ++ (at ∷ []))
  unfolding counts_of by_currency
  none-counted none =
      tabulate-ext _ _ (kind_count * currencies)
      (λ j l.
      let c : ℕ = suc (j / kind_count) in
      let kind : ℕ = suc (j % kind_count) in
      ap pos (sym (among-more c kind ∙ rw (none c kind (omega arith) (omega arith) (omega arith) (omega arith)) (add-zero (among book ps c kind)))))

  -- of no kind, or of no currency
  pub no-kind-counted : (kind : ℕ) → byte book at ≡ kind → body_length kind ≡ 0 → counts_of book ps ≡ counts_of book (ps ++ (at ∷ []))
  unfolding is_of
  no-kind-counted kind first none =
      none-counted (λ c k _ _ l h. rw (ne_eqb (byte book at) k (λ e. kind-long k l h (ap body_length (sym e ∙ first) ∙ none))))

  pub no-currency-counted : (currency : ℕ) → byte book (suc at) ≡ currency → (1 ≤ currency → currency ≤ currencies → ⊥) → counts_of book ps ≡ counts_of book (ps ++ (at ∷ []))
  unfolding is_of
  no-currency-counted currency second none =
      none-counted (λ c k l h _ _. rw (ne_eqb (byte book (suc at)) c (λ e. none (omega (arith, e, second)) (omega (arith, e, second)))) (nor (byte book at is k)))
    where
      nor : (b : Bool) → b && false ≡ false
      nor true = refl
      nor false = refl

  -- in its currency's part
  pub one-counted : (c kind : ℕ) → byte book at ≡ kind → byte book (suc at) ≡ c → 1 ≤ c → c ≤ currencies → 1 ≤ kind
      → put_back kind_count c (counts_of book ps) (plus_ℤ (part_of kind_count c (counts_of book ps)) (one kind)) ≡ counts_of book (ps ++ (at ∷ []))
  unfolding counts_of is_of
  one-counted c kind first second l h k =
      sym (part-more ◌+ℤ◌ (pos 0) +ℤ_idr kind_count c (λ b j. pos (among book ps b (suc j))) (λ b j. pos (among book (ps ++ (at ∷ [])) b (suc j))) (one kind) (omega arith) l h
      (λ b j _. ap pos (among-more b (suc j)) ∙ by b j))
    where
      by : (b j : ℕ) → pos (among book ps b (suc j) + (if is_of book b (suc j) at then 1 else 0)) ≡ pos (among book ps b (suc j)) +ℤ (if c is b then one kind j else pos 0)
      by b j = rw (first, second, same_kind kind j k) (cases (j is (kind - 1)) (c is b))
        where
          cases : (p q : Bool) → pos (among book ps b (suc j) + (if p && q then 1 else 0)) ≡ pos (among book ps b (suc j)) +ℤ (if q then (if p then pos 1 else pos 0) else pos 0)
          cases true true = refl
          cases true false = refl
          cases false true = refl
          cases false false = refl
