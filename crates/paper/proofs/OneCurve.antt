-- The curves of an accepted book: every currency that is used has one, no currency has two, and a currency's rate is that of its own.
use Prim.Native.Nat.{ℕ, ◌+◌, ◌≤◌}
use mathlib.Core.Bool.{Bool, true, false, true≢false, not, ◌&&◌, ◌||◌}
use mathlib.Core.List.{List, [], ◌∷◌, ◌++◌, append_assoc}
use mathlib.Core.Logic.{⊎_elim}
use mathlib.Core.Path.{◌≡◌, refl, sym, ap, ◌∙◌}
use native.Mathlib.Omega.{arith}
use borrow.Author.Tests.{leb-false, eqb-true, eq-eqb, not-false}
use Rattle.laws.specs.Tests.{◌is◌, ◌up_to◌, first}
use Rattle.laws.specs.Sums.{some}
use Rattle.laws.proofs.Tests.{and-true, or-true, first_to, first-none}
use Rattle.paper.specs.Refusals.{Checked, accepted, refused}
use Rattle.paper.specs.Curve.{Curve, shocked_rate}
use Rattle.paper.specs.Records.{Record, flows, option, curve, currency_of, is_curve}
use Rattle.paper.specs.Flow.{gives}
use Rattle.paper.specs.Ledger.{rate_of, totals, used, curved}
use Rattle.paper.specs.TurnedDown.{lacks_curve}
use Rattle.paper.specs.Book.{walk, covered, outcome}
use Rattle.paper.specs.Sound.{Sound}
use Rattle.paper.proofs.Checks.{Known, known, gone, known_of, chain, tested, unless-known}
use Rattle.paper.proofs.Rate.{rate-past}
use Rattle.paper.proofs.Walk.{every-record}

pub record CurveIn (kept : List Record) (c : ℕ) : Type 0 where
  pub before : List Record
  pub own : Curve
  pub after : List Record
  pub split : kept ≡ before ++ (curve c own ∷ after)

-- ---- in any list

at_head : (r : Record) (kept : List Record) (c : ℕ) → (currency_of r is c && is_curve r) ≡ true → CurveIn (r ∷ kept) c
unfolding currency_of is_curve
at_head (flows d f) kept c e = absurd (true≢false (sym (and-true (d is c) false e).1))
at_head (option d side values) kept c e = absurd (true≢false (sym (and-true (d is c) false e).1))
at_head (curve d z) kept c e =
    let same : d ≡ c = eqb-true d c (and-true (d is c) true e).0 in
    record { before = []; own = z; after = kept; split = ap (λ (n : ℕ). curve n z ∷ kept) same }

behind : (r : Record) {kept : List Record} {c : ℕ} → CurveIn kept c → CurveIn (r ∷ kept) c
behind r f = record { before = r ∷ f.before; own = f.own; after = f.after; split = ap (λ (l : List Record). r ∷ l) f.split }

found : (kept : List Record) (c : ℕ) → curved kept c ≡ true → CurveIn kept c
unfolding curved some
found [] c e = absurd (true≢false (sym e))
found (r ∷ kept) c e = ⊎_elim (at_head r kept c) (λ f. behind r (found kept c f)) (or-true (currency_of r is c && is_curve r) (some (λ x. currency_of x is c && is_curve x) kept) e)

or-last : (b : Bool) → b || true ≡ true
or-last true = refl
or-last false = refl

curved-with : (before after : List Record) (c : ℕ) (z : Curve) → curved (before ++ (curve c z ∷ after)) c ≡ true
unfolding curved some currency_of is_curve
curved-with [] after c z = rw (eq-eqb c c refl)
curved-with (r ∷ before) after c z = rw (curved-with before after c z) (or-last (currency_of r is c && is_curve r))

-- ---- in an accepted book

anything : {A : Type 0} (m : Checked A) → Known (λ a. Unit {0}) m
anything (accepted a) = known tt
anything (refused r place) = gone tt

module _ (top : ℕ) (book : List ℕ) (T report_room ledger_room : ℕ) where
  abbrev Covered : List Record → Type 0
  Covered kept = (c : ℕ) → 1 ≤ c → c ≤ top → lacks_curve kept c ≡ false

  all-covered : Known Covered (outcome top book T report_room ledger_room)
  unfolding outcome covered
  all-covered = tested _ _ _ _ tt (λ e. tested _ _ _ _ tt (λ f. tested _ _ _ _ tt (λ g.
      chain (anything (walk top book)) (λ kept h. unless-known _ _ _ _ tt (λ t c l m. first-none (lacks_curve kept) 1 top (end kept t) c l (omega arith))))))
    where
      end : (kept : List Record) → (first (lacks_curve kept) 1 top up_to top) ≡ false → first (lacks_curve kept) 1 top ≡ 1 + top
      end kept t = omega (arith, leb-false (first (lacks_curve kept) 1 top) top t, first_to (lacks_curve kept) 1 top)

  module _ (kept : List Record) (e : outcome top book T report_room ledger_room ≡ accepted kept) where
    -- 15: a currency that is used has a curve
    pub has-curve : (c : ℕ) → 1 ≤ c → c ≤ top → used kept c ≡ true → CurveIn kept c
    unfolding lacks_curve
    has-curve c l m u =
        let covers : used kept c && not (curved kept c) ≡ false = known_of all-covered kept e c l m in
        found kept c (not-false (curved kept c) (rw u at covers))

    -- 12: and no other one, before it or after
    pub one-curve : (c : ℕ) (f : CurveIn kept c) → (curved f.before c ≡ false) × (curved f.after c ≡ false)
    unfolding Sound
    one-curve c f = ((every-record top book T report_room ledger_room kept e f.before f.after (curve c f.own) f.split).sound.1.fresh, by (curved f.after c) refl)
      where
        fresh : (g : CurveIn f.after c) → curved (f.before ++ (curve c f.own ∷ g.before)) c ≡ false
        fresh g =
            let place : kept ≡ (f.before ++ (curve c f.own ∷ g.before)) ++ (curve c g.own ∷ g.after) =
            f.split ∙ ap (λ (l : List Record). f.before ++ (curve c f.own ∷ l)) g.split ∙ sym (append_assoc f.before (curve c f.own ∷ g.before) (curve c g.own ∷ g.after)) in
            (every-record top book T report_room ledger_room kept e (f.before ++ (curve c f.own ∷ g.before)) g.after (curve c g.own) place).sound.1.fresh

        by : (b : Bool) → curved f.after c ≡ b → b ≡ false
        by true t = let g = found f.after c t in absurd (true≢false (sym (curved-with f.before g.before c f.own) ∙ fresh g))
        by false t = refl

    -- its rate, in demand 3 and wherever totals are spoken of, is that curve's
    pub own-rate : (c : ℕ) (f : CurveIn kept c) (i k : ℕ) → (totals kept).rate c i k ≡ shocked_rate f.own i k
    unfolding rate_of gives currency_of is_curve
    own-rate c f i k = rw (f.split, rate-past c i k f.before (curve c f.own ∷ f.after) (one-curve c f).0, eq-eqb c c refl)
