-- The widths of the buckets are the ladder's own (02, request 3).
use Prim.Native.Nat.{ℕ, suc, ◌+◌, ◌≤◌, ◌<◌}
use mathlib.Core.Bool.{Bool, true}
use mathlib.Core.Path.{◌≡◌, refl}
use native.Mathlib.Omega.{arith}
use borrow.Author.Tests.{eqb-true}
use Rattle.laws.specs.Tests.{◌is◌, all}
use Rattle.laws.proofs.Tests.{all-at}
use Rattle.laws.proofs.Lists.{table-most}
use Rattle.paper.specs.Ladder.{upper_ends, upper_end, widths, width}

between_ends : ℕ → Bool
between_ends k = (upper_end k).months + width (suc k) is (upper_end (suc k)).months

between-tested : all between_ends 0 17 ≡ true
unfolding between_ends all upper_ends widths
between-tested = refl

-- buckets 2 to 18: the months of the end before and the width are the months of the bucket's own end
pub width-between : (k : ℕ) → k < 17 → (upper_end k).months + width (suc k) ≡ (upper_end (suc k)).months
unfolding between_ends
width-between k l = eqb-true _ _ (all-at between_ends 0 17 between-tested k (omega arith) l)

-- buckets 1 and 19: set by the request, since one night is no month and nothing ends above twenty years
pub width-outer : (width 0 ≡ 0) × (width 18 ≡ 120)
unfolding widths
width-outer = (refl, refl)

pub width-most : (k : ℕ) → width k ≤ 120
unfolding widths all
width-most = table-most widths 120 refl
