-- Kinds 8 and 10: the nineteen base rates are those of the body, and the part, nil before, holds the rates of the seven scenarios.
use Prim.Native.Nat.{ℕ, ◌/◌, ◌%◌, ◌≤◌}
use mathlib.Core.Bool.{Bool}
use mathlib.Core.List.{List, append-nil}
use mathlib.Core.Path.{◌≡◌, refl, sym, ap, ◌∙◌}
use native.Mathlib.Omega.{arith}
use lib.IntN.{ℤ, pos, ◌+ℤ◌, +ℤ_idl}
use lib.ListN.{length, get_or, replicate, length-replicate, get_or-replicate, drop_of_length-le}
use lib.Seq.{take_all}
use Rattle.laws.specs.Lists.{tabulate, joined}
use Rattle.laws.proofs.Tests.{none_first}
use Rattle.laws.proofs.Lists.{tabulate-length, tabulate-ext}
use Rattle.paper.specs.declared.Fault.{Fault}
use Rattle.paper.specs.Ladder.{buckets}
use Rattle.paper.specs.Curve.{Curve, shocked_rate}
use Rattle.paper.specs.Flow.{gives}
use Rattle.paper.specs.Refusals.{Checked, accepted, refused, checked_as}
use Rattle.paper.specs.Records.{Record, curve, currencies}
use Rattle.paper.specs.Ledger.{section_size}
use Rattle.paper.specs.TurnedDown.{bad_rate}
use Rattle.paper.specs.Fields.{rate_at, each}
use Rattle.paper.specs.Decode.{decode_curve, decode_listed_curve}
use Rattle.paper.specs.Sound.{SoundCurve, Sound}
use Rattle.paper.proofs.Checks.{Known, known, gone, known_of, chain, tested, through}
use Rattle.arrays.specs.Slots.{with_rates}
use Rattle.curve.specs.Shocked.{curve_of, shocked_section}
use Rattle.fields.specs.Answers.{rate_of, rates_from, good_rates, rates_set}
use Rattle.fields.proofs.FieldLaws.{each-accepts}
use Rattle.std.specs.Prelude.{Ok, Err}
use Rattle.posting.specs.Parts.{Taken}
use Rattle.posting.specs.Answers.{CurveTaken}
use Rattle.record.specs.declared.curves.Curve.{Curve as FieldsOfCurve}
use Rattle.std.specs.Prelude.{Result, Ok}
use Rattle.record.specs.Answers.{curve_record}
use Rattle.slotting.specs.Parts.{RateParts, Enterable}

known_by : {A : Type 0} {P : A → Type 0} (m : Checked A) → ((a : A) → m ≡ accepted a → P a) → Known P m
known_by (accepted a) h = known (h a refl)
known_by (refused r place) h = gone tt

-- ---- the base rates

rates-read : (body : List ℕ) (o : ℕ) → Known (λ rs. good_rates body o ≡ buckets) (each (rate_at body) buckets o)
unfolding good_rates
rates-read body o =
    known_by (each (rate_at body) buckets o) (λ rs f. none_first (λ k. bad_rate (rate_of body o k)) 0 buckets (λ k _ l. (each-accepts _ _ _ o buckets rs f).1 k l))

pub typed-good : (curved : ℕ → Bool) (body : List ℕ) → Known (λ r. good_rates body 1 ≡ buckets) (decode_curve currencies curved body)
unfolding decode_curve
typed-good curved body =
    through _ (λ c. tested _ _ _ _ tt (λ e. chain (rates-read body 1) (λ rs g. through _ (λ p. through _ (λ h. through _ (λ l. tested _ _ _ _ tt (λ f. known g)))))))

pub listed-good : (curved : ℕ → Bool) (body : List ℕ) → Known (λ r. good_rates body 5 ≡ buckets) (decode_listed_curve currencies curved body)
unfolding decode_listed_curve
listed-good curved body = through _ (λ c. tested _ _ _ _ tt (λ e. through _ (λ s. chain (rates-read body 5) (λ rs g. tested _ _ _ _ tt (λ f. known g)))))

pub base-is : (body : List ℕ) (o : ℕ) (room : List ℤ) → good_rates body o ≡ buckets → length room ≡ buckets → rates_set body o room ≡ rates_from body o
base-is body o room good long =
    let whole : length (rates_from body o) ≤ buckets = omega (arith, tabulate-length (rate_of body o) buckets) in
    rw (good, take_all buckets (rates_from body o) whole, drop_of_length-le room {i = buckets} (omega arith), append-nil)

-- what a decoder accepted may be entered
pub enterable : (body : List ℕ) (o : ℕ) {curved : Bool} {decoded : Result FieldsOfCurve Fault} {read : Checked Record} {rates : List ℤ} → checked_as (curve_record body o) decoded ≡ read
    → Known (Sound currencies (λ _. curved)) read → Known (λ r. good_rates body o ≡ buckets) read → RateParts curved rates → Enterable decoded body o rates
unfolding checked_as Sound
enterable body o {curved} {decoded} {read} {rates} means sound good parts = record {
  good = λ s e. known_of good _ (reads s e);
  base = λ s e. (drawn s e).base;
  sized = λ s e. record { parallel-most = (drawn s e).parallel.to; short-most = (drawn s e).short.to; long-most = (drawn s e).long.to };
  bare = λ s e. parts.bare (drawn s e).fresh;
}
  where
    reads : (s : FieldsOfCurve) → decoded ≡ Ok s → read ≡ accepted (curve s.currency (curve_of (rates_from body o) s.shocks))
    reads s e = sym means ∙ ap (checked_as (curve_record body o)) e

    drawn : (s : FieldsOfCurve) → decoded ≡ Ok s → SoundCurve (λ _. curved) s.currency (curve_of (rates_from body o) s.shocks)
    drawn s e = (known_of sound _ (reads s e)).1

-- ---- the part: nil, and then the rates of the seven scenarios

section-is : (c : ℕ) (z : Curve) → with_rates (curve c z) (replicate section_size (pos 0)) ≡ shocked_section z
unfolding with_rates joined gives shocked_section
section-is c z =
    let rate : ℕ → ℤ = λ j. shocked_rate z (j / buckets) (j % buckets) in
    ap (tabulate (λ j. get_or (replicate section_size (pos 0)) j (pos 0) +ℤ rate j)) (length-replicate section_size (pos 0))
    ∙ tabulate-ext _ rate section_size (λ j l. ap (λ (x : ℤ). x +ℤ rate j) (get_or-replicate section_size j (pos 0) (pos 0) l) ∙ +ℤ_idl (rate j))

pub curve-taken : (c : ℕ) (z : Curve) {read : Checked Record} {rates rates' : List ℤ} → read ≡ accepted (curve c z) → rates ≡ replicate section_size (pos 0)
    → rates' ≡ shocked_section z → CurveTaken read rates (Ok tt) rates'
curve-taken c z accepts bare filled = rw accepts (record { answered = refl; filled = filled ∙ sym (ap (with_rates (curve c z)) bare ∙ section-is c z) })

pub curve-refused : {read : Checked Record} (f : Fault) → read ≡ refused f.cause f.place → (rates : List ℤ) → CurveTaken read rates (Err f) rates
curve-refused f e rates = rw e (record { answered = refl; filled = refl })

pub taken_as : {read means : Checked Record} {rates rates' : List ℤ} {answer : Taken} → read ≡ means → CurveTaken read rates answer rates' → CurveTaken means rates answer rates'
taken_as e t = rw (sym e) t
