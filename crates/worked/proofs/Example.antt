-- The worked example of 01, from its bytes to its report, at the four values of T: an accepted book for each verdict.
use Prim.Native.Nat.{ℕ}
use mathlib.Core.Bool.{false}
use mathlib.Core.Path.{◌≡◌, refl, ap, ◌∙◌}
use mathlib.Core.List.{List, [], ◌∷◌, ◌++◌}
use lib.IntN.{ℤ, pos, negsuc}
use lib.ListN.{length, get_or, replicate}
use Rattle.laws.specs.Tests.{any, first}
use Rattle.laws.specs.Sums.{sum, sum_ℤ, total, total_ℤ, some, greatest}
use Rattle.laws.specs.Nearest.{nearest, nearest_ℤ, rounded_up}
use Rattle.laws.specs.Lists.{tabulate_from}
use Rattle.laws.specs.Series.{factorial}
use Rattle.paper.specs.Ladder.{not_after, upper_ends, bucket_of, midpoints}
use Rattle.paper.specs.Refusals.{accepted, ◌>>=◌, ◌>>◌, unless}
use Rattle.paper.specs.Series.{denominator, series_term, numerator, billion_over_e}
use Rattle.paper.specs.Curve.{short_share, rate_changes, shocked_rate}
use Rattle.paper.specs.Records.{Record, flows, single, curve, kinds, body_length, currency_of, is_curve, currencies}
use Rattle.paper.specs.Flow.{sided, due, flow_of, flow, adds, gives, magnitude}
use Rattle.paper.specs.Ledger.{rate_of, of_currency, of_currency_ℤ, totals, used, curved, cells, figures}
use Rattle.paper.specs.TurnedDown.{unknown_kind, cut_short, bad_currency, bad_side, bad_months, bad_days, bad_amount, second_curve, bad_rate, bad_shock, bad_shocked, flows_over, options_over, over_limit, lacks_curve, bad_capital, book_too_long, room_too_small}
use Rattle.paper.specs.Fields.{signed, field, each}
use Rattle.paper.specs.Decode.{decode_single, decode_curve, decode}
use Rattle.paper.specs.Factor.{digit}
use Rattle.paper.specs.Change.{exponent, net_size, tolerance_of, tolerance}
use Rattle.paper.specs.Verdict.{scenario_sum, measure, worst, total_tolerance, verdict, verdict_number, changes_of, change_at, report_from, report_of}
use Rattle.paper.proofs.FactorTable.{table, lack, written, after_written, factor_written, value_by, change_by, report-written}
use Rattle.paper.specs.Book.{placed, admitted, record_at, next_at, walk_from, walk, covered, outcome}

-- a curve for currency 1, all rates 0, shocks 400, 0, 0; one asset, (241,0), 1,000,000
unfoldable pub example : List ℕ
example = (8 ∷ 1 ∷ replicate 76 0) ++ (1 ∷ 144 ∷ 0 ∷ 0 ∷ 0 ∷ 0 ∷ []) ++ (1 ∷ 1 ∷ 1 ∷ 0 ∷ 241 ∷ 0 ∷ 0 ∷ 15 ∷ 66 ∷ 64 ∷ [])

unfoldable pub kept : List Record
kept =
    curve 1 (record { rates = replicate 19 (pos 0); shocks = record { parallel = 400; short = 0; long = 0 } })
    ∷ flows 1 (single 1 (record { months = 241; days = 0 }) 1000000)
    ∷ []

-- the whole walk; capital enters by its own range alone
example-walked : walk currencies example ≡ accepted kept
unfolding example kept any first sum total total_ℤ some nearest nearest_ℤ factorial not_after upper_ends bucket_of midpoints ◌>>=◌ ◌>>◌ unless denominator series_term numerator billion_over_e short_share rate_changes shocked_rate kinds body_length currency_of is_curve sided due flow_of flow adds gives magnitude of_currency of_currency_ℤ used curved unknown_kind cut_short bad_currency bad_side bad_months bad_days bad_amount second_curve bad_rate bad_shock bad_shocked flows_over options_over over_limit signed field each decode_single decode_curve decode placed admitted record_at next_at walk_from walk
example-walked = refl

example-short : book_too_long (length example) ≡ false
unfolding example book_too_long
example-short = refl

example-covered : covered currencies kept ≡ accepted kept
unfolding kept covered first unless lacks_curve used curved some currency_of is_curve
example-covered = refl

taken : (T : ℕ) → bad_capital T ≡ false → outcome currencies example T (figures currencies) (cells currencies) ≡ accepted kept
unfolding outcome room_too_small unless ◌>>=◌ ◌>>◌
taken T ok = rw (example-short, ok, example-walked, example-covered)

-- ---- its report

unfoldable pub changes : List ℤ
changes = pos 632121 ∷ negsuc 1718281 ∷ replicate 190 (pos 0)

-- sums, measure, worst, total tolerance, verdict
unfoldable pub stated : ℕ → List ℤ
unfolding changes
stated verdict_is =
    changes
    ++ (pos 632121 ∷ pos 0 ∷ pos 0 ∷ pos 0 ∷ pos 0 ∷ pos 0 ∷ [])
    ++ (pos 632121 ∷ pos 1 ∷ pos 2 ∷ pos verdict_is ∷ [])

changes-are : changes_of currencies (change_by factor_written (totals kept)) ≡ changes
unfolding changes kept sum sum_ℤ total total_ℤ first nearest nearest_ℤ tabulate_from factorial not_after upper_ends bucket_of midpoints denominator series_term numerator billion_over_e short_share rate_changes shocked_rate currency_of sided due flow_of flow adds gives is_curve rate_of of_currency of_currency_ℤ digit table lack written after_written factor_written value_by change_by exponent changes_of
changes-are = refl

tolerance-is : total_tolerance currencies (tolerance (totals kept)) ≡ 2
unfolding kept sum total_ℤ first greatest rounded_up not_after upper_ends bucket_of currency_of sided due flow_of flow of_currency_ℤ net_size tolerance_of tolerance total_tolerance
tolerance-is = refl

report-is : (T : ℕ) → report_of currencies (totals kept) T ≡ stated (verdict_number (verdict 632121 2 T))
unfolding stated changes sum greatest first tabulate_from scenario_sum measure worst changes_of report_from
report-is T = report-written currencies (totals kept) changes changes-are T ∙ ap (λ (u : ℕ). report_from currencies (λ c i. get_or changes (change_at c i) (pos 0)) u T) tolerance-is

-- the book is accepted at T, and its report is as stated, with the verdict's number
pub record Reports (T number : ℕ) : Type 0 where
  pub accepts : outcome currencies example T (figures currencies) (cells currencies) ≡ accepted kept
  pub report : report_of currencies (totals kept) T ≡ stated number

reports : (T : ℕ) → bad_capital T ≡ false → Reports T (verdict_number (verdict 632121 2 T))
reports T ok = record { accepts = taken T ok; report = report-is T }

pub over-reported : Reports 4214126 1
unfolding bad_capital verdict verdict_number
over-reported = reports 4214126 refl

pub close-reported : Reports 4214127 3
unfolding bad_capital verdict verdict_number
close-reported = reports 4214127 refl

pub still-close-reported : Reports 4214153 3
unfolding bad_capital verdict verdict_number
still-close-reported = reports 4214153 refl

pub within-reported : Reports 4214154 2
unfolding bad_capital verdict verdict_number
within-reported = reports 4214154 refl
