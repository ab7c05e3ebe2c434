-- The table's rule, entry by entry, and what its entries and products are at most.
use Prim.Native.Nat.{ℕ, suc, ◌+◌, ◌*◌, ◌-◌, ◌/◌, ◌^◌, ◌≤◌, ◌<◌}
use mathlib.Core.List.{[]}
use mathlib.Core.Path.{◌≡◌, sym, ap, ◌∙◌}
use native.Mathlib.Nat.{mul_comm, mul_left_comm, pow-succ'}
use native.Mathlib.Omega.{arith}
use lib.Dec.{lit<, lit≤}
use lib.ListN.{get_or}
use Rattle.laws.specs.Lists.{tabulate}
use Rattle.laws.specs.Nearest.{nearest}
use Rattle.laws.proofs.Lists.{tabulate-at, tabulate-ext}
use Rattle.laws.proofs.Nearest.{nearest-tenths}
use Rattle.paper.specs.Scales.{billion}
use Rattle.paper.specs.Factor.{entry}
use Rattle.paper.proofs.SeriesLaws.{billion-over-most}
use Rattle.paper.proofs.FactorTable.{lack, written, entry-written, entry-lacks}
use Rattle.factor.specs.Table.{rows}

-- as the paper has the numbers written, each tested by the series
pub written-rows : tabulate (λ w. tabulate (written w) 10) 6 ≡ rows
unfolding rows
written-rows = tabulate-ext _ _ 6 (λ w l. tabulate-ext (written w) (entry w) 10 (λ d m. sym (entry-written w d (omega arith) m)))

pub entry_at : (w d : ℕ) → w < 6 → d < 10 → get_or (get_or rows w []) d 0 ≡ entry w d
unfolding rows
entry_at w d l m =
    ap (λ r. get_or r d 0) (tabulate-at (λ i. tabulate (entry i) 10) 6 w [] l) ∙ tabulate-at (entry w) 10 d 0 m

pub entry-most : (w d : ℕ) → entry w d ≤ billion
unfolding entry
entry-most w d = billion-over-most (d * 10 ^ (10 - w))

-- ---- the five smallest weights

-- times an entry that lacks m of a billion, as code has it, in tenths
lacking : (n w d m : ℕ) → 6 ≤ w → w < 11 → d < 10 → lack w d ≡ m → nearest (n * (10 ^ 10 - 10 * m)) (10 ^ 10) ≡ nearest (n * entry w d) billion
lacking n w d m f l k e =
    let t : 10 ^ 10 - 10 * m ≡ 10 * (billion - m) = omega arith in
    let tenths : n * (10 ^ 10 - 10 * m) ≡ 10 * (n * (billion - m)) = ap (λ (x : ℕ). n * x) t ∙ mul_left_comm n 10 (billion - m) in
    rw (tenths, entry-lacks w d f l k, e) (nearest-tenths (n * (billion - m)) billion)

-- 10^-6 to 10^-9: a tenth of digit times weight, which is a whole number
pub whole-lack : (n w d : ℕ) → 6 ≤ w → w < 10 → d < 10 → nearest (n * (10 ^ 10 - d * 10 ^ (10 - w))) (10 ^ 10) ≡ nearest (n * entry w d) billion
unfolding lack
whole-lack n w d f l k =
    let e : 10 - w ≡ suc (9 - w) = omega arith in
    let t : d * 10 ^ (10 - w) ≡ 10 * (d * 10 ^ (9 - w)) = rw (e, pow-succ' 10 (9 - w)) (mul_left_comm d 10 (10 ^ (9 - w))) in
    rw t (lacking n w d (d * 10 ^ (9 - w)) f (omega arith) k (omega arith))

-- 10^-10
pub last-lack : (n d m : ℕ) → d < 10 → (d + 4) / 10 ≡ m → nearest (n * (10 ^ 10 - m * 10)) (10 ^ 10) ≡ nearest (n * entry 10 d) billion
unfolding lack
last-lack n d m k e = rw (mul_comm m 10) (lacking n 10 d m (lit≤ tt) (lit< tt) k (omega arith))
