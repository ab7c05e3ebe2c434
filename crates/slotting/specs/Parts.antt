-- What the functions of kinds 7, 8 and 10 may rely on.
use Rattle.std.specs.Prelude.{ℕ, Bool, false, List, ◌≡◌, ℤ, pos, length, replicate, Result, Ok}
use Rattle.paper.specs.declared.Fault.{Fault}
use Rattle.paper.specs.Scales.{billion}
use Rattle.paper.specs.Flow.{shocked}
use Rattle.paper.specs.Ledger.{section_size}
use Rattle.paper.specs.Ladder.{buckets}
use Rattle.paper.specs.Sound.{Ranged, Listed}
use Rattle.curve.specs.Shocked.{Sized}
use Rattle.fields.specs.Answers.{rates_from, good_rates}
use Rattle.record.specs.declared.curves.Curve.{Curve}
use Rattle.posting.specs.Parts.{AtMost, AtMostℤ}

-- a currency's 6 option sizes and 6 add-ons
pub record OptionParts (sizes : List ℕ) (add_ons : List ℤ) : Type 0 where
  pub sizes-long : length sizes ≡ shocked
  pub add-ons-long : length add_ons ≡ shocked
  pub sizes-small : AtMost billion sizes
  pub add-ons-small : AtMostℤ billion add_ons

-- a currency's 133 rates: nil where it has no curve
pub record RateParts (curved : Bool) (rates : List ℤ) : Type 0 where
  pub long : length rates ≡ section_size
  pub bare : curved ≡ false → rates ≡ replicate section_size (pos 0)

-- a decoded curve whose rates, from o on in the body, and shocks are in range, and whose currency's rates are nil; of a refusal nothing is asked
pub record Enterable (decoded : Result Curve Fault) (body : List ℕ) (o : ℕ) (rates : List ℤ) : Type 0 where
  pub good : (s : Curve) → decoded ≡ Ok s → good_rates body o ≡ buckets
  pub base : (s : Curve) → decoded ≡ Ok s → Listed Ranged buckets (rates_from body o)
  pub sized : (s : Curve) → decoded ≡ Ok s → Sized s.shocks
  pub bare : (s : Curve) → decoded ≡ Ok s → rates ≡ replicate section_size (pos 0)
