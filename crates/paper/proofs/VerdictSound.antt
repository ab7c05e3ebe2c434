-- The verdict is sound: what it says of the reported measure holds of the exact one.
use Prim.Native.Nat.{ℕ, ◌+◌, ◌*◌, ◌≤◌, ◌<◌}
use mathlib.Core.Bool.{Bool, true, false, true≢false}
use mathlib.Core.Logic.{◌⊎◌, inl, inr, ⊎_elim, ◌↔◌}
use mathlib.Core.Path.{◌≡◌, refl, sym, ap}
use native.Mathlib.Omega.{arith}
use lib.IntN.{ℤ, pos, ◌+ℤ◌, ◌-ℤ◌, ◌*ℤ◌}
use lib.Signed.{lt_z, le_z, ◌≤ℤ◌, ◌<ℤ◌, clash_ℤ}
use Rattle.std.specs.Prelude.{if◌then◌else◌}
use Rattle.laws.specs.Ratio.{whole, ◌*ℚ◌, ◌≤ℚ◌, ◌<ℚ◌}
use Rattle.laws.proofs.Integers.{diff-up, diff-down, mul-up, mul-down}
use Rattle.laws.proofs.Order.{lt-is, lt_of, le_is, le_of, lt_z-true, lt_z-of, le_z-true, le_z-of, <-or-≥}
use Rattle.laws.proofs.RatioOrder.{within-exceeds, within-stays}
use Rattle.paper.specs.declared.Verdict.{Verdict}
use Rattle.paper.specs.declared.Verdict.TheVariants.{Over, Within, Close}
use Rattle.paper.specs.Ledger.{Totals}
use Rattle.paper.specs.Change.{change, tolerance}
use Rattle.paper.specs.Verdict.{measure, total_tolerance, verdict, verdict_number}
use Rattle.paper.specs.Exact.{exact_measure}
use Rattle.paper.proofs.ChangeClose.{Rated}
use Rattle.paper.proofs.MeasureClose.{measure-close}

-- ---- a rule by two tests that exclude each other

-- over exactly where P holds, within exactly where Q does, close exactly where neither does
pub record Rule (P Q : Type 0) (v : Verdict) : Type 0 where
  pub over : v ≡ Over ↔ P
  pub within : v ≡ Within ↔ Q
  pub close : v ≡ Close ↔ (¬ P) × (¬ Q)

ruled : {P Q : Type 0} (a b : Bool) → a ≡ true ↔ P → b ≡ true ↔ Q → (P → Q → ⊥) → Rule P Q (if a then Over else if b then Within else Close)
unfolding verdict_number
ruled true b p q apart = record {
  over = (λ e. p.0 refl, λ h. refl);
  within = (λ e. absurd (omega (arith, ap verdict_number e)), λ k. absurd (apart (p.0 refl) k));
  close = (λ e. absurd (omega (arith, ap verdict_number e)), λ n. absurd (n.0 (p.0 refl)));
}
ruled false true p q apart = record {
  over = (λ e. absurd (omega (arith, ap verdict_number e)), λ h. absurd (true≢false (sym (p.1 h))));
  within = (λ e. q.0 refl, λ k. refl);
  close = (λ e. absurd (omega (arith, ap verdict_number e)), λ n. absurd (n.1 (q.0 refl)));
}
ruled false false p q apart = record {
  over = (λ e. absurd (omega (arith, ap verdict_number e)), λ h. absurd (true≢false (sym (p.1 h))));
  within = (λ e. absurd (omega (arith, ap verdict_number e)), λ k. absurd (true≢false (sym (q.1 k))));
  close = (λ e. (λ h. true≢false (sym (p.1 h)), λ k. true≢false (sym (q.1 k))), λ n. refl);
}

-- ---- the two inequalities of the rule: 15T < 100(m - u), and 100(m + u) ≤ 15T

abbrev pub line : ℕ → ℤ
line T = pos 15 *ℤ pos T

abbrev pub least : ℕ → ℕ → ℤ
least m u = pos 100 *ℤ (pos m -ℤ pos u)

abbrev pub most : ℕ → ℕ → ℤ
most m u = pos 100 *ℤ (pos m +ℤ pos u)

-- as orders of naturals
above-is : (m u T : ℕ) → line T <ℤ least m u → 15 * T + 100 * u < 100 * m
above-is m u T h =
    let d = pos m -ℤ pos u in
    omega (arith, lt-is (line T) (least m u) h, mul-up (pos 100) d, mul-down (pos 100) d, diff-up (pos m) (pos u), diff-down (pos m) (pos u))

up-to-is : (m u T : ℕ) → most m u ≤ℤ line T → 100 * (m + u) ≤ 15 * T
up-to-is m u T h = omega (arith, le_is (most m u) (line T) h)

-- ---- the theorems: the rule

pub verdict-rule : (m u T : ℕ) → Rule (line T <ℤ least m u) (most m u ≤ℤ line T) (verdict m u T)
unfolding verdict
verdict-rule m u T =
    ruled (lt_z (line T) (least m u)) (le_z (most m u) (line T))
    (λ e. lt_of (line T) (least m u) (lt_z-true (line T) (least m u) e), λ h. lt_z-of (line T) (least m u) (lt-is (line T) (least m u) h))
    (λ e. le_of (most m u) (line T) (le_z-true (most m u) (line T) e), λ h. le_z-of (most m u) (line T) (le_is (most m u) (line T) h))
    (λ h k. omega (arith, above-is m u T h, up-to-is m u T k))

-- close: the tolerance reaches the line
pub close-reaches : (m u T : ℕ) → verdict m u T ≡ Close ↔ (least m u ≤ℤ line T) × (line T <ℤ most m u)
close-reaches m u T =
    let close = (verdict-rule m u T).close in (
      λ e. (
        ⊎_elim (λ h. absurd ((close.0 e).0 h)) (λ l. l) (<-or-≥ (line T) (least m u)),
        ⊎_elim (λ h. h) (λ l. absurd ((close.0 e).1 l)) (<-or-≥ (line T) (most m u)),
      ),
      λ r. close.1 (λ h. clash_ℤ h r.0, λ l. clash_ℤ r.1 l),
    )

pub one_of_three : (m u T : ℕ) → (verdict m u T ≡ Over) ⊎ (verdict m u T ≡ Within) ⊎ (verdict m u T ≡ Close)
one_of_three m u T = by (verdict m u T)
  where
    by : (v : Verdict) → (v ≡ Over) ⊎ (v ≡ Within) ⊎ (v ≡ Close)
    by Over = inl refl
    by Within = inr (inl refl)
    by Close = inr (inr refl)

-- ---- the theorems: t stands for the totals of an accepted book, T for its Tier 1 capital

module _ (top : ℕ) (t : Totals) (rated : Rated t) (T : ℕ) where
  -- over: 100 · exact measure > 15T
  pub over-sound : verdict (measure top (change t)) (total_tolerance top (tolerance t)) T ≡ Over → whole (pos (15 * T)) <ℚ (pos 100 *ℚ exact_measure top t)
  over-sound e = within-exceeds 100 (15 * T) (measure-close top t rated) (above-is _ _ T ((verdict-rule _ _ T).over.0 e))

  -- within: 100 · exact measure ≤ 15T
  pub within-sound : verdict (measure top (change t)) (total_tolerance top (tolerance t)) T ≡ Within → (pos 100 *ℚ exact_measure top t) ≤ℚ whole (pos (15 * T))
  within-sound e = within-stays 100 (15 * T) (measure-close top t rated) (up-to-is _ _ T ((verdict-rule _ _ T).within.0 e))
