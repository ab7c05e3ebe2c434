-- The two masks stand for the currencies used and the currencies with a curve, with one record more too; the lowest currency used without a curve, by trailing
-- zeros of their difference and by the records kept.
use Prim.Native.Nat.{ℕ, suc, ◌+◌, ◌-◌, ◌^◌, ◌≤◌, ◌<◌}
use mathlib.Core.Bool.{Bool, true, false, not, ◌&&◌, ◌||◌}
use mathlib.Core.List.{List, [], ◌∷◌, ◌++◌}
use mathlib.Core.Path.{◌≡◌, refl, sym, ap, ap₂, ◌∙◌}
use native.Mathlib.Decide.{ℕ_discrete}
use native.Mathlib.Numerals.{add-one}
use native.Mathlib.Omega.{arith}
use borrow.Author.Tests.{eq-eqb, ne_eqb, leb-true, leb-false}
use lib.Bits.{bit_and}
use lib.Count.{count_trailing_zeros}
use Rattle.std.specs.Prelude.{Some, None, if◌then◌else◌}
use Rattle.std.specs.Bool.{then_some}
use Rattle.laws.specs.Tests.{◌is◌, ◌up_to◌, first}
use Rattle.laws.specs.Digits.{has}
use Rattle.laws.specs.Sums.{some}
use Rattle.laws.proofs.Tests.{Stops, first_stops, stops-once, first-ext}
use Rattle.laws.proofs.Digits.{has-none, has-set, set-small, has-and-not, lowest, same-members}
use Rattle.laws.proofs.Totals.{some_more}
use Rattle.paper.specs.Records.{Record, currencies, currency_of, is_curve}
use Rattle.paper.specs.Ledger.{used, curved}
use Rattle.paper.specs.TurnedDown.{lacks_curve}
use Rattle.paper.proofs.Walk.{curved-more}
use Rattle.arrays.specs.declared.masks.Masks.{Masks}
use Rattle.arrays.specs.Masks.{curved_by, MaskOf, with_currency, marked_by, marked, lowest_missing, missing_in}

-- a set of currencies has one mask
pub one-mask : {curves other : ℕ} {set : ℕ → Bool} → MaskOf curves set → MaskOf other set → curves ≡ other
unfolding curved_by
one-mask {curves} {other} p q =
    same-members currencies curves other p.small q.small (λ i l.
    let e : suc i - 1 ≡ i = omega arith in
    ap (has curves) (sym e) ∙ p.has-it (suc i) (omega arith) (omega arith) ∙ sym (q.has-it (suc i) (omega arith) (omega arith)) ∙ ap (has other) e)

pub mask-none : (set : ℕ → Bool) → ((c : ℕ) → set c ≡ false) → MaskOf 0 set
unfolding curved_by
mask-none set none = record { small = omega arith; has-it = λ c l h. has-none (c - 1) ∙ sym (none c) }

pub mask-same : {mask : ℕ} {set set' : ℕ → Bool} → MaskOf mask set → ((c : ℕ) → set c ≡ set' c) → MaskOf mask set'
mask-same m e = record { small = m.small; has-it = λ c l h. m.has-it c l h ∙ e c }

-- currencies count from 1, digits from 0
same-digit : (c d : ℕ) → 1 ≤ c → 1 ≤ d → (c - 1 is d - 1) ≡ (c is d)
same-digit c d l m = by (ℕ_discrete c d)
  where
    by : Dec (c ≡ d) → (c - 1 is d - 1) ≡ (c is d)
    by (yes e) = eq-eqb (c - 1) (d - 1) (ap (λ (n : ℕ). n - 1) e) ∙ sym (eq-eqb c d e)
    by (no f) = ne_eqb (c - 1) (d - 1) (λ e. f (omega arith)) ∙ sym (ne_eqb c d f)

pub mask-more : {mask : ℕ} {set : ℕ → Bool} (c : ℕ) → 1 ≤ c → c ≤ currencies → MaskOf mask set → MaskOf (with_currency mask c) (λ d. set d || c is d)
unfolding curved_by
mask-more {mask} {set} c l h m = record {
  small = set-small currencies mask (c - 1) m.small (omega arith);
  has-it = λ d k n. has-set mask (c - 1) (d - 1) ∙ ap₂ ◌||◌ (m.has-it d k n) (same-digit c d l k);
}

-- ---- one record more

used-more : (kept : List Record) (r : Record) (c : ℕ) → used (kept ++ (r ∷ [])) c ≡ used kept c || (currency_of r is c && not (is_curve r))
unfolding used
used-more kept r c = some_more (λ x. currency_of x is c && not (is_curve x)) kept r

and-true : (b : Bool) → b && true ≡ b
and-true true = refl
and-true false = refl

and-false : (a b : Bool) → a || (b && false) ≡ a
and-false true b = refl
and-false false true = refl
and-false false false = refl

pub record MasksOf (m : Masks) (kept : List Record) : Type 0 where
  pub used-is : MaskOf m.used (used kept)
  pub curved-is : MaskOf m.curved (curved kept)

pub masks-none : MasksOf (record { used = 0; curved = 0 }) []
unfolding used curved some
masks-none = record { used-is = mask-none (used []) (λ c. refl); curved-is = mask-none (curved []) (λ c. refl) }

pub masks-more : (m : Masks) (kept : List Record) (r : Record) → 1 ≤ currency_of r → currency_of r ≤ currencies → MasksOf m kept → MasksOf (marked r m) (kept ++ (r ∷ []))
unfolding marked_by
masks-more m kept r l h s = by (is_curve r) refl
  where
    by : (b : Bool) → is_curve r ≡ b
        → MasksOf (if b then record { used = m.used; curved = with_currency m.curved (currency_of r) } else record { used = with_currency m.used (currency_of r); curved = m.curved }) (kept ++ (r ∷ []))
    by true e = record {
      used-is = mask-same s.used-is (λ c. sym (used-more kept r c ∙ rw e (and-false (used kept c) (currency_of r is c))));
      curved-is = mask-same (mask-more (currency_of r) l h s.curved-is) (λ c. sym (curved-more kept r c ∙ rw (e, and-true (currency_of r is c))));
    }
    by false e = record {
      used-is = mask-same (mask-more (currency_of r) l h s.used-is) (λ c. sym (used-more kept r c ∙ rw (e, and-true (currency_of r is c))));
      curved-is = mask-same s.curved-is (λ c. sym (curved-more kept r c ∙ rw e (and-false (curved kept c) (currency_of r is c))));
    }

-- ---- the lowest currency used without a curve

pub by-trailing-zeros : (m : Masks) → m.curved < 2 ^ 32 → count_trailing_zeros 32 (bit_and m.used (2 ^ 32 - 1 - m.curved)) + 1 ≡ lowest_missing m
unfolding lowest_missing
by-trailing-zeros m fits =
    let missing : ℕ = bit_and m.used (2 ^ 32 - 1 - m.curved) in
    add-one (count_trailing_zeros 32 missing)
    ∙ ap suc (sym (lowest 32 missing) ∙ first-ext _ _ 0 32 (λ i _ l. has-and-not 32 m.used m.curved i fits l))

-- ---- among the currencies the digits say what the records kept say

module _ (m : Masks) (kept : List Record) (s : MasksOf m kept) where
  lacks : ℕ → Bool
  lacks i = has m.used i && not (has m.curved i)

  lacks-is : (c : ℕ) → 1 ≤ c → c ≤ currencies → lacks (c - 1) ≡ lacks_curve kept c
  unfolding lacks lacks_curve curved_by
  lacks-is c l h = ap₂ (λ (a b : Bool). a && not b) (s.used-is.has-it c l h) (s.curved-is.has-it c l h)

  -- found among them
  pub missing-found : lowest_missing m ≤ currencies → first (lacks_curve kept) 1 currencies ≡ lowest_missing m
  unfolding lowest_missing lacks
  missing-found h =
      let d : ℕ = first lacks 0 32 in
      let at : Stops lacks 0 32 d = first_stops lacks 0 32 in
      let there : Stops (lacks_curve kept) 1 currencies (suc d) = record {
        from = omega arith;
        to = omega arith;
        before = λ c l n. sym (lacks-is c l (omega arith)) ∙ at.before (c - 1) (omega arith) (omega arith);
        holds = λ n. let digit : suc d - 1 ≡ d = omega arith in sym (lacks-is (suc d) (omega arith) h) ∙ ap lacks digit ∙ at.holds (omega arith);
      } in
      stops-once (first_stops (lacks_curve kept) 1 currencies) there

  pub missing-none : currencies < lowest_missing m → first (lacks_curve kept) 1 currencies ≡ suc currencies
  unfolding lowest_missing lacks
  missing-none h =
      let at : Stops lacks 0 32 (first lacks 0 32) = first_stops lacks 0 32 in
      let there : Stops (lacks_curve kept) 1 currencies (suc currencies) = record {
        from = omega arith;
        to = omega arith;
        before = λ c l n. sym (lacks-is c l (omega arith)) ∙ at.before (c - 1) (omega arith) (omega arith);
        holds = λ n. absurd (omega arith);
      } in
      stops-once (first_stops (lacks_curve kept) 1 currencies) there

module _ (m : Masks) where
  by_test : (b : Bool) {n : ℕ} → (lowest_missing m up_to currencies) ≡ b → Some n ≡ then_some b (lowest_missing m) → (n ≡ lowest_missing m) × (lowest_missing m ≤ currencies)
  by_test true {n} t e = let same : n ≡ lowest_missing m = cc in (same, leb-true (lowest_missing m) currencies t)
  by_test false t e = let z : ◌≡◌ {A = ℕ} 0 1 = cc in absurd (omega arith)

  none_by : (b : Bool) → (lowest_missing m up_to currencies) ≡ b → None ≡ then_some b (lowest_missing m) → currencies < lowest_missing m
  none_by true t e = let z : ◌≡◌ {A = ℕ} 0 1 = cc in absurd (omega arith)
  none_by false t e = leb-false (lowest_missing m) currencies t

  pub some-missing : {n : ℕ} → Some n ≡ missing_in m → (n ≡ lowest_missing m) × (lowest_missing m ≤ currencies)
  some-missing = by_test (lowest_missing m up_to currencies) refl

  pub none-is-missing : None ≡ missing_in m → currencies < lowest_missing m
  none-is-missing = none_by (lowest_missing m up_to currencies) refl
