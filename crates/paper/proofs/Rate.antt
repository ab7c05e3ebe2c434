-- A currency's rate is its curve's own: none before there is one, and that of the first from then on.
use Prim.Native.Nat.{ℕ, ◌<◌}
use mathlib.Core.Bool.{Bool, true, false, true≢false, ◌&&◌, ◌||◌}
use mathlib.Core.List.{List, [], ◌∷◌, ◌++◌, append-nil}
use mathlib.Core.Path.{◌≡◌, refl, sym, ap, ◌∙◌}
use native.Mathlib.Omega.{arith}
use lib.IntN.{pos, ◌+ℤ◌, +ℤ_idl, +ℤ_idr}
use borrow.Author.Tests.{eqb-true}
use Rattle.std.specs.Prelude.{if◌then◌else◌}
use Rattle.laws.specs.Tests.{◌is◌}
use Rattle.laws.specs.Sums.{some}
use Rattle.laws.proofs.Tests.{or-false}
use Rattle.paper.specs.Ladder.{buckets}
use Rattle.paper.specs.Curve.{shocked_rate}
use Rattle.paper.specs.Records.{Record, flows, option, curve, currency_of, is_curve}
use Rattle.paper.specs.Flow.{gives}
use Rattle.paper.specs.Ledger.{rate_of, curved}
use Rattle.paper.specs.Sound.{Ranged, Sound}

module _ (c i k : ℕ) where
  -- records without a curve of the currency do not matter
  pub rate-past : (before rest : List Record) → curved before c ≡ false → rate_of (before ++ rest) c i k ≡ rate_of rest c i k
  unfolding rate_of curved some
  rate-past [] rest e = refl
  rate-past (r ∷ before) rest e = by (currency_of r is c && is_curve r) (or-false _ _ e) (rate-past before rest)
    where
      by : (b : Bool) → (b ≡ false) × (curved before c ≡ false) → (curved before c ≡ false → rate_of (before ++ rest) c i k ≡ rate_of rest c i k)
          → (if b then gives r i k else rate_of (before ++ rest) c i k) ≡ rate_of rest c i k
      by true h past = absurd (true≢false h.0)
      by false h past = past h.1

  pub rate-none : (kept : List Record) → curved kept c ≡ false → rate_of kept c i k ≡ pos 0
  unfolding rate_of
  rate-none kept e = ap (λ (l : List Record). rate_of l c i k) (sym (append-nil kept)) ∙ rate-past kept [] e

  -- a record more gives the rate where there was none
  pub rate-more : (kept rest : List Record) → rate_of (kept ++ rest) c i k ≡ (if curved kept c then rate_of kept c i k else rate_of rest c i k)
  unfolding rate_of curved some
  rate-more [] rest = refl
  rate-more (r ∷ kept) rest = by (currency_of r is c && is_curve r) (rate-more kept rest)
    where
      by : (b : Bool) → rate_of (kept ++ rest) c i k ≡ (if curved kept c then rate_of kept c i k else rate_of rest c i k)
          → (if b then gives r i k else rate_of (kept ++ rest) c i k) ≡ (if b || curved kept c then (if b then gives r i k else rate_of kept c i k) else rate_of rest c i k)
      by true e = refl
      by false e = e

  -- ---- so it is as if it were added, where a curve finds none before it

  no-rate : (r : Record) → is_curve r ≡ false → gives r i k ≡ pos 0
  unfolding gives is_curve
  no-rate (flows d f) e = refl
  no-rate (option d side values) e = refl
  no-rate (curve d z) e = absurd (true≢false e)

  of_one : (r : Record) {a b : Bool} → (currency_of r is c) ≡ a → is_curve r ≡ b → rate_of (r ∷ []) c i k ≡ (if a && b then gives r i k else pos 0)
  unfolding rate_of
  of_one r e f = rw (e, f)

  kept_on : (kept rest : List Record) → rate_of rest c i k ≡ pos 0 → rate_of (kept ++ rest) c i k ≡ rate_of kept c i k +ℤ pos 0
  kept_on kept rest none = rate-more kept rest ∙ by (curved kept c) refl ∙ sym (+ℤ_idr (rate_of kept c i k))
    where
      by : (b : Bool) → curved kept c ≡ b → (if b then rate_of kept c i k else rate_of rest c i k) ≡ rate_of kept c i k
      by true e = refl
      by false e = none ∙ sym (rate-none kept e)

  pub rate-added : (kept : List Record) (r : Record) → (is_curve r ≡ true → curved kept (currency_of r) ≡ false)
      → rate_of (kept ++ (r ∷ [])) c i k ≡ rate_of kept c i k +ℤ (if currency_of r is c then gives r i k else pos 0)
  rate-added kept r fresh = by (currency_of r is c) refl (is_curve r) refl
    where
      by : (a : Bool) → (currency_of r is c) ≡ a → (b : Bool) → is_curve r ≡ b
          → rate_of (kept ++ (r ∷ [])) c i k ≡ rate_of kept c i k +ℤ (if a then gives r i k else pos 0)
      by false e b f = kept_on kept (r ∷ []) (of_one r e f)
      by true e false f = rw (no-rate r f) (kept_on kept (r ∷ []) (of_one r e f))
      by true e true f =
          let none : curved kept c ≡ false = ap (curved kept) (sym (eqb-true (currency_of r) c e)) ∙ fresh f in
          rate-past kept (r ∷ []) none ∙ of_one r e f ∙ sym (rw (rate-none kept none) (+ℤ_idl (gives r i k)))

  pub nil-ranged : Ranged (pos 0)
  nil-ranged = record { low = omega arith; high = omega arith }

  pub own-ranged : (top : ℕ) (before : ℕ → Bool) (r : Record) → Sound top before r → i < 7 → k < buckets → Ranged (rate_of (r ∷ []) c i k)
  unfolding rate_of gives Sound currency_of is_curve
  own-ranged top before (flows d f) s l m = by (d is c && false)
    where
      by : (b : Bool) → Ranged (if b then pos 0 else pos 0)
      by true = nil-ranged
      by false = nil-ranged
  own-ranged top before (option d side values) s l m = by (d is c && false)
    where
      by : (b : Bool) → Ranged (if b then pos 0 else pos 0)
      by true = nil-ranged
      by false = nil-ranged
  own-ranged top before (curve d z) s l m = by (d is c)
    where
      by : (b : Bool) → Ranged (if b && true then shocked_rate z i k else pos 0)
      by true = s.1.shocked i k l m
      by false = nil-ranged
