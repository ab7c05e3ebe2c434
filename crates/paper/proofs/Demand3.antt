-- Demand 3 for every accepted book: its report is true within its tolerances, and its verdict is sound.
use Prim.Native.Nat.{ℕ}
use mathlib.Core.List.{List}
use mathlib.Core.Logic.{◌⊎◌, inl, inr}
use mathlib.Core.Path.{◌≡◌, refl, sym, ap, ◌∙◌}
use native.Mathlib.Omega.{arith}
use lib.IntN.{pos}
use Rattle.std.specs.Prelude.{if◌then◌else◌}
use Rattle.laws.specs.Tests.{◌is◌}
use Rattle.paper.specs.declared.Verdict.{Verdict}
use Rattle.paper.specs.declared.Verdict.TheVariants.{Over, Within as WithinLine, Close}
use Rattle.paper.specs.Refusals.{accepted}
use Rattle.paper.specs.Records.{Record}
use Rattle.paper.specs.Ledger.{Totals, totals}
use Rattle.paper.specs.Change.{change, tolerance}
use Rattle.paper.specs.Verdict.{measure, total_tolerance, verdict, verdict_number, report_of}
use Rattle.paper.specs.Book.{outcome}
use Rattle.paper.specs.Demand3.{Demand3}
use Rattle.paper.proofs.Checks.{known_of}
use Rattle.paper.proofs.Walk.{Good, outcome-good}
use Rattle.paper.proofs.ChangeClose.{Rated, exponent-ranged, change-close}
use Rattle.paper.proofs.MeasureClose.{sum-close, measure-close}
use Rattle.paper.proofs.VerdictSound.{close-reaches, one_of_three, over-sound, within-sound}
use Rattle.paper.proofs.Report.{change-reported, sum-reported, measure-reported, tolerance-reported, verdict-reported}

pub rated : {kept : List Record} → Good kept → Rated (totals kept)
rated {kept} g = record { ranged = λ c i k l m. let r = g.ranged c i k l m in exponent-ranged ((totals kept).rate c i k) k m r.low r.high }

-- no two verdicts have one number
verdict_of : ℕ → Verdict
verdict_of n = if n is 1 then Over else if n is 2 then WithinLine else Close

verdict-back : (v : Verdict) → verdict_of (verdict_number v) ≡ v
unfolding verdict_of verdict_number
verdict-back Over = refl
verdict-back WithinLine = refl
verdict-back Close = refl

pub one-verdict : (v w : Verdict) → pos (verdict_number v) ≡ pos (verdict_number w) → v ≡ w
one-verdict v w e = let n : verdict_number v ≡ verdict_number w = cc in sym (verdict-back v) ∙ ap verdict_of n ∙ verdict-back w

numbered : {v : Verdict} → (v ≡ Over) ⊎ (v ≡ WithinLine) ⊎ (v ≡ Close) → (pos (verdict_number v) ≡ pos 1) ⊎ (pos (verdict_number v) ≡ pos 2) ⊎ (pos (verdict_number v) ≡ pos 3)
unfolding verdict_number
numbered (inl e) = inl (ap (λ (w : Verdict). pos (verdict_number w)) e)
numbered (inr (inl e)) = inr (inl (ap (λ (w : Verdict). pos (verdict_number w)) e))
numbered (inr (inr e)) = inr (inr (ap (λ (w : Verdict). pos (verdict_number w)) e))

module _ (top : ℕ) (t : Totals) (rates : Rated t) (T : ℕ) where
  pub report-true : Demand3 top t T (report_of top t T)
  unfolding report_of verdict_number
  report-true =
      let u : ℕ = total_tolerance top (tolerance t) in
      let m : ℕ = measure top (change t) in
      let said = verdict-reported top (change t) u T in
      record {
        changes = λ c i l h p n. rw (change-reported top (change t) u T c i l h p n) (change-close t rates c i (omega arith));
        sums = λ i p n. rw (sum-reported top (change t) u T i p n) (sum-close top t rates i (omega arith));
        measure = rw (measure-reported top (change t) u T) (measure-close top t rates);
        stated = tolerance-reported top (change t) u T;
        one_of_three = rw said (numbered (one_of_three m u T));
        over = λ e. over-sound top t rates T (one-verdict (verdict m u T) Over (sym said ∙ e));
        within = λ e. within-sound top t rates T (one-verdict (verdict m u T) WithinLine (sym said ∙ e));
        close = rw (measure-reported top (change t) u T, tolerance-reported top (change t) u T) (
          λ e. (close-reaches m u T).0 (one-verdict (verdict m u T) Close (sym said ∙ e)),
          λ h. said ∙ ap (λ (v : Verdict). pos (verdict_number v)) ((close-reaches m u T).1 h),
        );
      }

pub accepted-true : (top : ℕ) (book : List ℕ) (T report_room ledger_room : ℕ) (kept : List Record) → outcome top book T report_room ledger_room ≡ accepted kept
    → Demand3 top (totals kept) T (report_of top (totals kept) T)
accepted-true top book T report_room ledger_room kept e =
    report-true top (totals kept) (rated (known_of (outcome-good top book T report_room ledger_room) kept e)) T
