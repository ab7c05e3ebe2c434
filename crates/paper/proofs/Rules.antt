-- The flows of kinds 2 and 9, and the rules from changes to the verdict, the tolerance and the roundings, at numbers worked by hand: one table with a single claim.
use Prim.Native.Nat.{ℕ, ◌-◌}
use mathlib.Core.Path.{◌≡◌, refl}
use mathlib.Core.List.{List, [], ◌∷◌, ◌++◌, map}
use lib.IntN.{ℤ, pos, negsuc, neg_ℤ}
use lib.ListN.{get_or, replicate}
use Rattle.laws.specs.Tests.{first}
use Rattle.laws.specs.Sums.{sum, greatest}
use Rattle.laws.specs.Nearest.{nearest, nearest_ℤ, rounded_up}
use Rattle.laws.specs.Lists.{tabulate_from, tabulate}
use Rattle.paper.specs.Scales.{billion}
use Rattle.laws.specs.Series.{factorial}
use Rattle.paper.specs.Ladder.{not_after, upper_ends, bucket_of, midpoints}
use Rattle.paper.specs.Series.{denominator, series_term, numerator, billion_over_e}
use Rattle.paper.specs.Curve.{short_share, rate_changes}
use Rattle.paper.specs.Records.{currencies, Flows, coupons, floating_spread}
use Rattle.paper.specs.Flow.{sided, due, coupons_due, flow_of}
use Rattle.paper.specs.Change.{tolerance_of}
use Rattle.paper.specs.Verdict.{scenario_sum, measure, worst, verdict, verdict_number}

-- changes by currency and scenario, from rows of six
abbrev changes : List (List ℤ) → ℕ → ℕ → ℤ
changes rows c i = get_or (get_or rows (c - 1) []) (i - 1) (pos 0)

-- gains of one currency do not make up for losses of another; scenarios 2 and 4 both reach the measure
abbrev mixed : List (List ℤ)
mixed = (pos 5 ∷ negsuc 2 ∷ pos 0 ∷ pos 7 ∷ pos 0 ∷ pos 0 ∷ []) ∷ (negsuc 3 ∷ pos 10 ∷ negsuc 0 ∷ pos 3 ∷ pos 0 ∷ pos 1 ∷ []) ∷ []

abbrev gains : List (List ℤ)
gains = (negsuc 0 ∷ negsuc 1 ∷ negsuc 2 ∷ negsuc 3 ∷ negsuc 4 ∷ negsuc 5 ∷ []) ∷ []

abbrev verdicts : ℕ → ℕ → List ℕ → List ℕ
verdicts m u = map (λ T. verdict_number (verdict m u T))

abbrev in_buckets : Flows → List ℤ
in_buckets f = tabulate (flow_of f 0) 19

-- the flows of buckets 4 to 9, and nil in all others
abbrev four_to_nine : List ℤ → List ℤ
four_to_nine six = replicate 3 (pos 0) ++ six ++ replicate 10 (pos 0)

-- an asset of 1,000 with a coupon of 10 at the reset, and a spread of 5 every three months after it, four times
abbrev spread_from : ℕ → ℕ → Flows
spread_from months days = floating_spread 1 (record { months = months; days = days }) 1000 10 3 4 5

pub record Row : Type 0 where
  pub given : List ℤ
  pub stated : List ℤ

unfoldable pub table : List Row
table =
    record {
      given = in_buckets (coupons 2 6 5 10 1000);
      stated = four_to_nine (neg_ℤ (pos 10) ∷ pos 0 ∷ neg_ℤ (pos 10) ∷ neg_ℤ (pos 10) ∷ neg_ℤ (pos 10) ∷ neg_ℤ (pos 1010) ∷ []);
    }
    -- reset at 9 months: spreads at 12, 15, 18 and 21
    ∷ record { given = in_buckets (spread_from 9 0); stated = four_to_nine (pos 0 ∷ pos 1010 ∷ pos 5 ∷ pos 10 ∷ pos 5 ∷ pos 0 ∷ []) }
    -- a day later, that of 12 months is past bucket 6, and that of 18 past bucket 7
    ∷ record { given = in_buckets (spread_from 9 1); stated = four_to_nine (pos 0 ∷ pos 0 ∷ pos 1010 ∷ pos 10 ∷ pos 10 ∷ pos 0 ∷ []) }
    ∷ record {
      given = tabulate_from (λ i. pos (scenario_sum currencies (changes mixed) i)) 1 6;
      stated = pos 5 ∷ pos 10 ∷ pos 0 ∷ pos 10 ∷ pos 0 ∷ pos 1 ∷ [];
    }
    ∷ record { given = pos (measure currencies (changes mixed)) ∷ pos (worst currencies (changes mixed)) ∷ []; stated = pos 10 ∷ pos 2 ∷ [] }
    ∷ record { given = pos (measure currencies (changes gains)) ∷ pos (worst currencies (changes gains)) ∷ []; stated = pos 0 ∷ pos 0 ∷ [] }
    ∷ record {
      given = map (λ A. pos (tolerance_of A)) (0 ∷ 1 ∷ 38461538 ∷ 38461539 ∷ 2000000000 ∷ []);
      stated = pos 0 ∷ pos 2 ∷ pos 2 ∷ pos 3 ∷ pos 53 ∷ [];
    }
    ∷ record {
      given = map pos (verdicts 632121 2 (4214126 ∷ 4214127 ∷ 4214153 ∷ 4214154 ∷ []));
      stated = pos 1 ∷ pos 3 ∷ pos 3 ∷ pos 2 ∷ [];
    }
    ∷ record { given = map pos (verdicts 0 0 (1 ∷ [])); stated = pos 2 ∷ [] }
    ∷ record { given = map pos (verdicts 1 5 (1 ∷ 40 ∷ [])); stated = pos 3 ∷ pos 2 ∷ [] }
    ∷ record { given = map pos (verdicts 15 0 (99 ∷ 100 ∷ [])); stated = pos 1 ∷ pos 2 ∷ [] }
    ∷ record {
      given = map (λ z. nearest_ℤ z billion) (pos 499999999 ∷ pos 500000000 ∷ neg_ℤ (pos 499999999) ∷ neg_ℤ (pos 500000000) ∷ []);
      stated = pos 0 ∷ pos 1 ∷ pos 0 ∷ negsuc 0 ∷ [];
    }
    ∷ record {
      given = rate_changes (record { parallel = 400; short = 300; long = 200 }) 900000000;
      stated = pos 0 ∷ pos 40000 ∷ neg_ℤ (pos 40000) ∷ neg_ℤ (pos 15750) ∷ pos 20400 ∷ pos 27000 ∷ neg_ℤ (pos 27000) ∷ [];
    }
    ∷ record {
      given = rate_changes (record { parallel = 0; short = 1; long = 1 }) 5000000;
      stated = pos 0 ∷ pos 0 ∷ pos 0 ∷ pos 89 ∷ neg_ℤ (pos 59) ∷ pos 1 ∷ negsuc 0 ∷ [];
    }
    -- SRP31.92: at 3.5 years, with shocks of 100 basis points, the short shock is 41.7, the steepener 25.4, the flattener -1.6 basis points
    ∷ record {
      given = pos (short_share 9) ∷ rate_changes (record { parallel = 100; short = 100; long = 100 }) (short_share 9);
      stated = pos 416862020 ∷ pos 0 ∷ pos 10000 ∷ neg_ℤ (pos 10000) ∷ pos 2539 ∷ neg_ℤ (pos 164) ∷ pos 4169 ∷ neg_ℤ (pos 4169) ∷ [];
    }
    ∷ []

pub rules-hold : map (λ r. r.given) table ≡ map (λ r. r.stated) table
unfolding table first sum not_after upper_ends bucket_of sided due coupons_due flow_of greatest nearest nearest_ℤ rounded_up tabulate_from factorial midpoints denominator series_term numerator billion_over_e short_share rate_changes tolerance_of scenario_sum measure worst verdict verdict_number
rules-hold = refl
