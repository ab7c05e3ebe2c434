-- Kind 10 is kind 8 with the listed shocks typed: where a listed curve is accepted, the same curve with its shocks typed is accepted too, as the same record.
use Prim.Native.Nat.{ℕ, zero, suc, ◌+◌, ◌*◌, ◌≤◌, ◌<◌}
use mathlib.Core.Bool.{Bool, true, false}
use mathlib.Core.List.{List}
use mathlib.Core.Path.{◌≡◌, refl, sym, ap, ◌∙◌}
use native.Mathlib.Omega.{arith}
use borrow.Author.Tests.{le-ltb}
use Rattle.laws.specs.Tests.{◌below◌, first}
use Rattle.paper.specs.declared.Refusal.{Refusal}
use Rattle.paper.specs.declared.Refusal.TheVariants.{BadCurrency, SecondCurve, OutOfRange}
use Rattle.paper.specs.Refusals.{Checked, accepted, refused, ◌>>=◌, ◌>>◌, unless, refuse_if}
use Rattle.paper.specs.Ladder.{buckets}
use Rattle.paper.specs.declared.Shocks.{Shocks}
use Rattle.paper.specs.Curve.{Curve}
use Rattle.paper.specs.Records.{curve}
use Rattle.paper.specs.Published.{list_of, shocks_for, Sizes}
use Rattle.paper.specs.TurnedDown.{bad_currency, second_curve, bad_rate, bad_shock, bad_shocked}
use Rattle.paper.specs.Fields.{byte, two, three, four, signed, field, currency_at, rate_at, shock_at, listed_at, each}
use Rattle.paper.specs.Decode.{drawn, decode_curve, decode_listed_curve}
use Rattle.paper.proofs.Checks.{Known, known, gone, known_of, weaker, chain, tested}
use Rattle.paper.proofs.Published.{listed-sized}

-- a body of kind 10 and one of kind 8: the same currency and rates, and so many basis points typed
pub record Typed (listed typed : List ℕ) (shocks : Shocks) : Type 0 where
  pub currency : byte typed 0 ≡ byte listed 0
  pub rates : (j : ℕ) → 1 ≤ j → j < 77 → byte typed j ≡ byte listed (j + 4)
  pub parallel : two typed 77 ≡ shocks.parallel
  pub short : two typed 79 ≡ shocks.short
  pub long : two typed 81 ≡ shocks.long

-- the rest may use what the first link accepted
followed : {A B : Type 0} {Q : B → Type 0} (m : Checked A) {next : A → Checked B} → ((a : A) → m ≡ accepted a → Known Q (next a)) → Known Q (m >>= next)
unfolding ◌>>=◌
followed (accepted a) rest = rest a refl
followed (refused q place) rest = gone tt

-- where a field stands does not decide whether it is accepted
elsewhere : {A : Type 0} (bad : A → Bool) (q : Refusal) (o p : ℕ) {x y a : A} → x ≡ y → field bad q p y ≡ accepted a → field bad q o x ≡ accepted a
unfolding field unless
elsewhere bad q o p {x} {y} {a} same e = ap (field bad q o) same ∙ by (bad y) refl
  where
    by : (b : Bool) → bad y ≡ b → field bad q o y ≡ accepted a
    by true t = let z : ◌≡◌ {A = ℕ} 0 1 = cc (t, e) in absurd (omega arith)
    by false f = rw f (rw f at e)

module _ (listed typed : List ℕ) {shocks : Shocks} (t : Typed listed typed shocks) where
  four_same : (o : ℕ) → 1 ≤ o → o + 4 ≤ 77 → four typed o ≡ four listed (o + 4)
  four_same o l m = rw (t.rates o l (omega arith), at 1 (omega arith), at 2 (omega arith), at 3 (omega arith)) refl
    where
      at : (i : ℕ) → i < 4 → byte typed (o + i) ≡ byte listed (o + 4 + i)
      at i k = t.rates (o + i) (omega arith) (omega arith) ∙ ap (byte listed) (omega arith)

  rates-same : (n o : ℕ) → 1 ≤ o → o + 4 * n ≤ 77 → Known (λ rs. each (rate_at typed) n o ≡ accepted rs) (each (rate_at listed) n (o + 4))
  unfolding each ◌>>=◌
  rates-same zero o l m = known refl
  rates-same (suc n) o l m =
      followed (rate_at listed (o + 4)) (λ x e.
      followed (each (rate_at listed) n (o + 4 + 4)) (λ xs f.
      known (rw (elsewhere bad_rate _ o (o + 4) (ap signed (four_same o l (omega arith))) e, known_of (rates-same n (o + 4) (omega arith) (omega arith)) xs f) refl)))

shock-typed : (typed : List ℕ) (o p : ℕ) → two typed o ≡ p → p ≤ 500 → shock_at typed o ≡ accepted p
unfolding field unless bad_shock
shock-typed typed o p e l = rw (e, le-ltb 1000 p (omega arith)) refl

drawn-same : (c : ℕ) (z : Curve) → Known (λ r. drawn c z 1 ≡ accepted r) (drawn c z 5)
unfolding unless ◌>>◌
drawn-same c z = by (first (bad_shocked z) 0 buckets below buckets) _ _
  where
    by : (b : Bool) (here there : ℕ) → Known (λ r. (refuse_if b OutOfRange there >> accepted (curve c z)) ≡ accepted r) (refuse_if b OutOfRange here >> accepted (curve c z))
    by true here there = gone tt
    by false here there = known refl

-- the shocks that a body of kind 10 names
abbrev pub named : List ℕ → Shocks
named body = shocks_for (list_of (byte body 1)) (three body 2)

named-shocks : (body : List ℕ) → Known (λ s. (s ≡ named body) × Sizes s) (listed_at body 1)
unfolding listed_at
named-shocks body = tested _ _ _ _ tt (λ e. tested _ _ _ _ tt (λ f. known (refl, listed-sized _ _ f)))

pub as-typed : (top : ℕ) (curved : ℕ → Bool) (listed typed : List ℕ) → Typed listed typed (named listed) → Known (λ r. decode_curve top curved typed ≡ accepted r) (decode_listed_curve top curved listed)
unfolding decode_curve decode_listed_curve ◌>>=◌ ◌>>◌ unless
as-typed top curved listed typed t =
    followed (currency_at top listed 0) (λ c e.
    tested (second_curve curved c) SecondCurve 0 _ tt (λ fresh.
    chain (named-shocks listed) (λ s (same, sizes).
    followed (each (rate_at listed) buckets 5) (λ rs g.
    weaker (λ r h. rw (
      elsewhere (bad_currency top) BadCurrency 0 0 t.currency e,
      fresh,
      known_of (rates-same listed typed t buckets 1 (omega arith) (omega arith)) rs g,
      shock-typed typed 77 s.parallel (t.parallel ∙ ap (λ (x : Shocks). x.parallel) (sym same)) sizes.0.1,
      shock-typed typed 79 s.short (t.short ∙ ap (λ (x : Shocks). x.short) (sym same)) sizes.1.1,
      shock-typed typed 81 s.long (t.long ∙ ap (λ (x : Shocks). x.long) (sym same)) sizes.2.1,
    ) h)
    (drawn-same c _)))))
