-- A book in two currencies, a gain in one and a loss in the other: no currency, record or scenario may be left out of its report.
use Prim.Native.Nat.{ℕ}
use mathlib.Core.Bool.{false}
use mathlib.Core.Path.{◌≡◌, refl, ap, ◌∙◌}
use mathlib.Core.List.{List, [], ◌∷◌, ◌++◌}
use lib.IntN.{ℤ, pos, negsuc}
use lib.ListN.{length, get_or, replicate}
use Rattle.laws.specs.Tests.{any, first}
use Rattle.laws.specs.Sums.{sum, sum_ℤ, total, total_ℤ, some, greatest}
use Rattle.laws.specs.Nearest.{nearest, nearest_ℤ, rounded_up}
use Rattle.laws.specs.Lists.{tabulate_from}
use Rattle.laws.specs.Series.{factorial}
use Rattle.paper.specs.Ladder.{not_after, upper_ends, bucket_of, midpoints}
use Rattle.paper.specs.Refusals.{accepted, ◌>>=◌, ◌>>◌, unless}
use Rattle.paper.specs.Series.{denominator, series_term, numerator, billion_over_e}
use Rattle.paper.specs.Curve.{Curve, short_share, rate_changes, shocked_rate}
use Rattle.paper.specs.Records.{Record, flows, single, curve, kinds, body_length, currency_of, is_curve, currencies}
use Rattle.paper.specs.Flow.{sided, due, flow_of, flow, adds, gives, magnitude}
use Rattle.paper.specs.Ledger.{rate_of, of_currency, of_currency_ℤ, totals, used, curved, cells, figures}
use Rattle.paper.specs.TurnedDown.{unknown_kind, cut_short, bad_currency, bad_side, bad_months, bad_days, bad_amount, second_curve, bad_rate, bad_shock, bad_shocked, flows_over, options_over, over_limit, lacks_curve, bad_capital, book_too_long, room_too_small}
use Rattle.paper.specs.Fields.{signed, field, each}
use Rattle.paper.specs.Decode.{decode_single, decode_curve, decode}
use Rattle.paper.specs.Factor.{digit}
use Rattle.paper.specs.Change.{exponent, net_size, tolerance_of, tolerance}
use Rattle.paper.specs.Verdict.{scenario_sum, measure, worst, total_tolerance, verdict, verdict_number, changes_of, change_at, report_from, report_of}
use Rattle.paper.specs.Book.{placed, admitted, record_at, next_at, walk_from, walk, covered, outcome}
use Rattle.paper.proofs.Bytes.{in4, rates, single_body, curve_body}
use Rattle.paper.proofs.FactorTable.{table, lack, written, after_written, factor_written, value_by, change_by, report-written}

-- rates 0 and parallel shocks of 400 in both; an asset in 1 and a liability in 2, both of 1,000,000 at (241,0)
unfoldable pub book : List ℕ
book =
    (8 ∷ curve_body 1 (in4 0) 400 0 0) ++ (1 ∷ single_body 1 1 241 0 1000000)
    ++ (8 ∷ curve_body 2 (in4 0) 400 0 0) ++ (1 ∷ single_body 2 2 241 0 1000000)

abbrev flat : Curve
flat = record { rates = replicate 19 (pos 0); shocks = record { parallel = 400; short = 0; long = 0 } }

unfoldable pub kept : List Record
kept =
    curve 1 flat ∷ flows 1 (single 1 (record { months = 241; days = 0 }) 1000000)
    ∷ curve 2 flat ∷ flows 2 (single 2 (record { months = 241; days = 0 }) 1000000) ∷ []

unfoldable pub changes : List ℤ
changes =
    (pos 632121 ∷ negsuc 1718281 ∷ replicate 4 (pos 0)) ++ (negsuc 632120 ∷ pos 1718282 ∷ replicate 4 (pos 0)) ++ replicate 180 (pos 0)

-- sums, measure, worst, total tolerance: the gain of one does not make up for the loss of the other
unfoldable pub stated : List ℤ
stated =
    changes ++ (pos 632121 ∷ pos 1718282 ∷ pos 0 ∷ pos 0 ∷ pos 0 ∷ pos 0 ∷ []) ++ (pos 1718282 ∷ pos 2 ∷ pos 4 ∷ pos 1 ∷ [])

walked : walk currencies book ≡ accepted kept
unfolding book kept rates any first sum total total_ℤ some nearest nearest_ℤ factorial not_after upper_ends bucket_of midpoints ◌>>=◌ ◌>>◌ unless denominator series_term numerator billion_over_e short_share rate_changes shocked_rate kinds body_length currency_of is_curve sided due flow_of flow adds gives magnitude of_currency of_currency_ℤ used curved unknown_kind cut_short bad_currency bad_side bad_months bad_days bad_amount second_curve bad_rate bad_shock bad_shocked flows_over options_over over_limit signed field each decode_single decode_curve decode placed admitted record_at next_at walk_from walk
walked = refl

short : book_too_long (length book) ≡ false
unfolding book rates book_too_long
short = refl

covers : covered currencies kept ≡ accepted kept
unfolding kept covered first unless lacks_curve used curved some currency_of is_curve
covers = refl

pub taken : outcome currencies book 1 (figures currencies) (cells currencies) ≡ accepted kept
unfolding outcome room_too_small bad_capital unless ◌>>=◌ ◌>>◌
taken = rw (short, walked, covers)

changes-are : changes_of currencies (change_by factor_written (totals kept)) ≡ changes
unfolding changes kept sum sum_ℤ total total_ℤ first nearest nearest_ℤ tabulate_from factorial not_after upper_ends bucket_of midpoints denominator series_term numerator billion_over_e short_share rate_changes shocked_rate currency_of sided due flow_of flow adds gives is_curve rate_of of_currency of_currency_ℤ digit table lack written after_written factor_written value_by change_by exponent changes_of
changes-are = refl

tolerance-is : total_tolerance currencies (tolerance (totals kept)) ≡ 4
unfolding kept sum total_ℤ first greatest rounded_up not_after upper_ends bucket_of currency_of sided due flow_of flow of_currency_ℤ net_size tolerance_of tolerance total_tolerance
tolerance-is = refl

pub report-is : report_of currencies (totals kept) 1 ≡ stated
unfolding stated changes sum greatest first tabulate_from scenario_sum measure worst verdict verdict_number changes_of report_from
report-is = report-written currencies (totals kept) changes changes-are 1 ∙ ap (λ (u : ℕ). report_from currencies (λ c i. get_or changes (change_at c i) (pos 0)) u 1) tolerance-is
