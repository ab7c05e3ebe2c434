-- Kind 9 with a spread of nil is kind 3, in every scenario and bucket.
use Prim.Native.Nat.{ℕ, suc}
use mathlib.Core.Bool.{Bool, true, false}
use mathlib.Core.Path.{◌≡◌, refl, ap}
use native.Mathlib.Omega.{arith}
use lib.IntN.{pos}
use Rattle.std.specs.Prelude.{if◌then◌else◌}
use Rattle.laws.specs.Tests.{◌is◌}
use Rattle.laws.proofs.Sums.{sum-none}
use Rattle.paper.specs.Ladder.{Term, bucket_of}
use Rattle.paper.specs.Records.{floating, floating_spread}
use Rattle.paper.specs.Flow.{sided, due, coupons_due, flow_of}

due-nil : (term : Term) (k : ℕ) → due term 0 k ≡ 0
unfolding due
due-nil term k = by (bucket_of term is suc k)
  where
    by : (b : Bool) → ◌≡◌ {A = ℕ} (if b then 0 else 0) 0
    by true = refl
    by false = refl

coupons-nil : (start : Term) (period count k : ℕ) → coupons_due start period count 0 k ≡ 0
unfolding coupons_due
coupons-nil start period count k = sum-none _ count (λ j _. due-nil _ k)

pub nil-spread : (side : ℕ) (reset : Term) (principal coupon period count i k : ℕ)
    → flow_of (floating_spread side reset principal coupon period count 0) i k ≡ flow_of (floating side reset principal coupon) i k
unfolding flow_of
nil-spread side reset principal coupon period count i k = ap (λ (n : ℕ). sided side (pos n)) (omega (arith, coupons-nil reset period count k))
