-- What the end of a curve means, where its rates are those of the body.
use Prim.Native.Nat.{ℕ}
use mathlib.Core.Bool.{Bool, true, false}
use mathlib.Core.List.{List}
use mathlib.Core.Path.{◌≡◌, refl, ap, ◌∙◌}
use lib.IntN.{ℤ}
use Rattle.std.specs.Prelude.{Result}
use Rattle.laws.specs.Tests.{◌below◌, first}
use Rattle.paper.specs.declared.Fault.{Fault}
use Rattle.paper.specs.declared.Refusal.TheVariants.{OutOfRange}
use Rattle.paper.specs.declared.Shocks.{Shocks}
use Rattle.paper.specs.Ladder.{buckets}
use Rattle.paper.specs.Refusals.{accepted, ◌>>◌, unless, refuse_if, checked_as}
use Rattle.paper.specs.Records.{curve}
use Rattle.paper.specs.TurnedDown.{bad_shocked}
use Rattle.paper.specs.Decode.{drawn}
use Rattle.curve.specs.Shocked.{curve_of}
use Rattle.fields.specs.Answers.{rates_from}
use Rattle.record.specs.declared.curves.Curve.{Curve}
use Rattle.record.specs.Answers.{curve_record, drawn_of}

pub drawn-read : (body : List ℕ) (o currency : ℕ) (shocks : Shocks) {rates : List ℤ} {answer : Result Curve Fault} → rates ≡ rates_from body o
    → answer ≡ drawn_of currency shocks (drawn currency (curve_of rates shocks) o) → checked_as (curve_record body o) answer ≡ drawn currency (curve_of (rates_from body o) shocks) o
unfolding unless ◌>>◌ checked_as
drawn-read body o currency shocks {rates} held told =
    ap (checked_as (curve_record body o)) (told ∙ ap (λ (l : List ℤ). drawn_of currency shocks (drawn currency (curve_of l shocks) o)) held) ∙ by (first (bad_shocked (curve_of (rates_from body o) shocks)) 0 buckets below buckets) _
  where
    by : (b : Bool) (place : ℕ)
        → checked_as (curve_record body o) (drawn_of currency shocks (refuse_if b OutOfRange place >> accepted (curve currency (curve_of (rates_from body o) shocks)))) ≡ (refuse_if b OutOfRange place >> accepted (curve currency (curve_of (rates_from body o) shocks)))
    by true place = refl
    by false place = refl
