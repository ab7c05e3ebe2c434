-- The table's entries: written out for the six largest weights, by a rule for the five smallest. By one computed test each is the entry that the
-- paper defines. Factors and changes by the written table make a whole report cheap to compute.
use Prim.Native.Nat.{ℕ, zero, suc, ◌+◌, ◌*◌, ◌-◌, ◌/◌, ◌%◌, ◌^◌, ◌≤◌, ◌<◌}
use mathlib.Core.Bool.{Bool, true}
use mathlib.Core.List.{List, [], ◌∷◌}
use mathlib.Core.Path.{◌≡◌, refl, ap, fun_ext, ◌∙◌}
use native.Mathlib.Omega.{arith}
use borrow.Author.Tests.{eqb-true, le-ltb}
use lib.Dec.{lit<, lit≤}
use lib.IntN.{ℤ, pos, negsuc, ◌+ℤ◌, ◌-ℤ◌, ◌*ℤ◌}
use lib.ListN.{get_or}
use Rattle.std.specs.Prelude.{if◌then◌else◌}
use Rattle.laws.specs.Tests.{◌is◌, ◌below◌, all}
use Rattle.laws.specs.Sums.{sum, sum_ℤ}
use Rattle.laws.specs.Nearest.{nearest, nearest_ℤ}
use Rattle.laws.specs.Series.{factorial}
use Rattle.laws.proofs.Tests.{all-at}
use Rattle.paper.specs.Scales.{billion}
use Rattle.paper.specs.Ladder.{buckets}
use Rattle.paper.specs.Series.{denominator, series_term, numerator, billion_over_e}
use Rattle.paper.specs.Factor.{entry, digit, after_digits, low_start, low_end, factor}
use Rattle.paper.specs.Ledger.{Totals}
use Rattle.paper.specs.Change.{exponent, value, change, tolerance}
use Rattle.paper.specs.Verdict.{total_tolerance, changes_of, change_at, report_from, report_of}
use Rattle.paper.proofs.ReportList.{report-by-list}

-- a row for each weight, from 10^0 down to 10^-5, and in it the digits 0 to 9
unfoldable pub table : List ℕ
table =
    1000000000 ∷ 367879441 ∷ 135335283 ∷ 49787068 ∷ 18315639 ∷ 6737947 ∷ 2478752 ∷ 911882 ∷ 335463 ∷ 123410
    ∷ 1000000000 ∷ 904837418 ∷ 818730753 ∷ 740818221 ∷ 670320046 ∷ 606530660 ∷ 548811636 ∷ 496585304 ∷ 449328964 ∷ 406569660
    ∷ 1000000000 ∷ 990049834 ∷ 980198673 ∷ 970445534 ∷ 960789439 ∷ 951229425 ∷ 941764534 ∷ 932393820 ∷ 923116346 ∷ 913931185
    ∷ 1000000000 ∷ 999000500 ∷ 998001999 ∷ 997004496 ∷ 996007989 ∷ 995012479 ∷ 994017964 ∷ 993024443 ∷ 992031915 ∷ 991040379
    ∷ 1000000000 ∷ 999900005 ∷ 999800020 ∷ 999700045 ∷ 999600080 ∷ 999500125 ∷ 999400180 ∷ 999300245 ∷ 999200320 ∷ 999100405
    ∷ 1000000000 ∷ 999990000 ∷ 999980000 ∷ 999970000 ∷ 999960001 ∷ 999950001 ∷ 999940002 ∷ 999930002 ∷ 999920003 ∷ 999910004
    ∷ []

-- what an entry of a smaller weight lacks of a billion: a tenth of what the digit stands for in units of 10^-10, to the nearest, halves down
unfoldable pub lack : ℕ → ℕ → ℕ
lack w d = (d * 10 ^ (10 - w) + 4) / 10

unfoldable pub written : ℕ → ℕ → ℕ
written w d = if w below 6 then get_or table (10 * w + d) 0 else billion - lack w d

rightly : ℕ → Bool
rightly j = entry (j / 10) (j % 10) is written (j / 10) (j % 10)

each_right : all rightly 0 110 ≡ true
unfolding rightly written table lack all entry nearest denominator numerator billion_over_e sum series_term factorial
each_right = refl

pub entry-written : (w d : ℕ) → w < 11 → d < 10 → entry w d ≡ written w d
unfolding rightly
entry-written w d l m =
    let j = 10 * w + d in
    let row : j / 10 ≡ w = omega arith in
    let place : j % 10 ≡ d = omega arith in
    rw (row, place) at (eqb-true (entry (j / 10) (j % 10)) (written (j / 10) (j % 10)) (all-at rightly 0 110 each_right j (omega arith) (omega arith)))

-- the rule of the five smallest weights, at once and weight by weight
pub entry-lacks : (w d : ℕ) → 6 ≤ w → w < 11 → d < 10 → entry w d ≡ billion - lack w d
unfolding written
entry-lacks w d f l m = entry-written w d l m ∙ rw (le-ltb w 6 f)

pub entries-lack : (d : ℕ) → d < 10
    → (entry 6 d ≡ billion - 1000 * d) × (entry 7 d ≡ billion - 100 * d) × (entry 8 d ≡ billion - 10 * d) × (entry 9 d ≡ billion - d)
    × (entry 10 d ≡ billion - (d + 4) / 10)
unfolding lack
entries-lack d m = (
  entry-lacks 6 d (lit≤ tt) (lit< tt) m ∙ omega arith,
  entry-lacks 7 d (lit≤ tt) (lit< tt) m ∙ omega arith,
  entry-lacks 8 d (lit≤ tt) (lit< tt) m ∙ omega arith,
  entry-lacks 9 d (lit≤ tt) (lit< tt) m ∙ omega arith,
  entry-lacks 10 d (lit≤ tt) (lit< tt) m ∙ omega arith,
)

-- ---- factors

unfoldable pub after_written : ℕ → ℕ → ℕ → ℕ
after_written start Y zero = start
after_written start Y (suc w) = nearest (after_written start Y w * written w (digit Y w)) billion

after-written : (start Y w : ℕ) → w ≤ 11 → after_digits start Y w ≡ after_written start Y w
unfolding after_digits after_written digit
after-written start Y zero h = refl
after-written start Y (suc w) h = rw (after-written start Y w (omega arith), entry-written w (digit Y w) h (omega arith))

unfoldable pub factor_written : ℤ → ℕ
factor_written (pos X) = after_written billion X 11
factor_written (negsuc n) = after_written low_start (low_end - suc n) 11

pub factor-written : (X : ℤ) → factor X ≡ factor_written X
unfolding factor factor_written
factor-written (pos X) = after-written billion X 11 (omega arith)
factor-written (negsuc n) = after-written low_start (low_end - suc n) 11 (omega arith)

-- ---- changes, by any factor

unfoldable pub value_by : (ℤ → ℕ) → Totals → ℕ → ℕ → ℤ
value_by by t c i = sum_ℤ (λ k. t.cell c i k *ℤ pos (by (exponent (t.rate c i k) k))) buckets

unfoldable pub change_by : (ℤ → ℕ) → Totals → ℕ → ℕ → ℤ
change_by by t c i = nearest_ℤ (value_by by t c 0 -ℤ value_by by t c i) billion +ℤ t.add_on c i

pub change-written : (t : Totals) → change t ≡ change_by factor_written t
unfolding change change_by value value_by
change-written t = ap (λ (by : ℤ → ℕ). change_by by t) (fun_ext factor-written)

-- a report, from the list of the changes that the written table gives
pub report-written : (top : ℕ) (t : Totals) (list : List ℤ) → changes_of top (change_by factor_written t) ≡ list
    → (T : ℕ) → report_of top t T ≡ report_from top (λ c i. get_or list (change_at c i) (pos 0)) (total_tolerance top (tolerance t)) T
unfolding report_of
report-written top t list e T = report-by-list top (change t) list (ap (changes_of top) (change-written t) ∙ e) (total_tolerance top (tolerance t)) T
