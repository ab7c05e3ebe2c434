-- Shocked rates: bucket by bucket as the code makes them, and their range.
use Prim.Native.Nat.{ℕ, zero, suc, ◌≤◌, ◌<◌}
use mathlib.Core.Bool.{Bool, true, false, ◌||◌}
use mathlib.Core.List.{List}
use mathlib.Core.Path.{◌≡◌, refl, ap, ◌∙◌}
use native.Mathlib.Numerals.{add-one}
use lib.ListN.{get_or}
use Rattle.std.specs.Prelude.{if◌then◌else◌}
use Rattle.std.specs.List.{list_any, range_with_len}
use Rattle.laws.specs.Tests.{any}
use Rattle.laws.proofs.Lists.{tabulate-at}
use Rattle.paper.specs.Scales.{billion}
use Rattle.paper.specs.Ladder.{buckets}
use Rattle.paper.specs.Curve.{quarter, short_share}
use Rattle.paper.proofs.SeriesLaws.{billion-over-most}
use Rattle.curve.specs.Shocked.{short_shares}

-- ---- s

pub share-at : {l : List ℕ} (k : ℕ) → l ≡ short_shares → k < buckets → get_or l k 0 ≡ short_share k
unfolding short_shares
share-at k e h = ap (λ l. get_or l k 0) e ∙ tabulate-at short_share buckets k 0 h

pub share-most : (k : ℕ) → short_share k ≤ billion
unfolding short_share
share-most k = billion-over-most (quarter k)

-- ---- the tests of the range, as they are gone through

pub any_listed : (p : ℕ → Bool) (a n : ℕ) → list_any p (range_with_len a n) ≡ any p a n
unfolding any
any_listed p a zero = refl
any_listed p a (suc n) = rw (add-one a, any_listed p (suc a) n) (by (p a) (any p (suc a) n))
  where
    by : (b c : Bool) → (b || c) ≡ (if b then true else c)
    by true c = refl
    by false c = refl
