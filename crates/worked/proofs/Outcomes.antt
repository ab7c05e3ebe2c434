-- Books and what comes of them: every number at least once, with its place, worked out by hand from the layout; one table with a single claim.
use Prim.Native.Nat.{ℕ}
use mathlib.Core.Path.{◌≡◌, refl}
use mathlib.Core.List.{List, [], ◌∷◌, ◌++◌, map}
use lib.ListN.{length, replicate}
use Rattle.laws.specs.Tests.{any, first}
use Rattle.laws.specs.Sums.{sum, total, total_ℤ, some}
use Rattle.laws.specs.Nearest.{nearest, nearest_ℤ}
use Rattle.laws.specs.Series.{factorial}
use Rattle.paper.specs.Ladder.{not_after, upper_ends, bucket_of, midpoints}
use Rattle.paper.specs.Refusals.{Checked, accepted, refused, number_of, ◌>>=◌, ◌>>◌, unless}
use Rattle.paper.specs.Series.{denominator, series_term, numerator, billion_over_e}
use Rattle.paper.specs.Curve.{short_share, rate_changes, shocked_rate}
use Rattle.paper.specs.Records.{Record, kinds, body_length, currency_of, is_curve, currencies}
use Rattle.paper.specs.Behaviour.{prepayment_multipliers, withdrawal_multipliers, behavioural_rate, weighed_core, deposit_flow, paid, prepaid, interest, outstanding_at, scheduled_at, paid_at, prepaid_at, interest_at, loan_flow, moved, term_deposit_flow}
use Rattle.paper.specs.Flow.{sided, due, coupons_due, flow_of, flow, adds, magnitude}
use Rattle.paper.specs.Ledger.{of_currency, used, curved}
use Rattle.paper.specs.TurnedDown.{unknown_kind, cut_short, bad_currency, bad_side, bad_months, bad_days, bad_period, bad_count, bad_amount, bad_option, bad_share, bad_category, core_above_cap, core_too_long, interest_alone, second_curve, bad_rate, bad_shock, bad_shocked, schedule_over, flows_over, options_over, over_limit, lacks_curve, bad_capital, book_too_long, room_too_small, unknown_edition, code_not_listed}
use Rattle.paper.specs.Letters.{D, J, N, P, Y, Z}
use Rattle.paper.specs.Published.{edition1, edition2, list_of, line_of, shocks_for}
use Rattle.paper.specs.Fields.{signed, field, listed_at, each}
use Rattle.paper.specs.Decode.{decode_single, decode_coupons, decode_floating, decode_deposit, decode_loan, decode_term_deposit, decode_option, decode_curve, decode_floating_spread, decode_listed_curve, decode}
use Rattle.paper.specs.Book.{placed, admitted, record_at, next_at, walk_from, walk, covered, outcome}
use Rattle.paper.proofs.Bytes.{in4, below4, only, pair, single_body, coupons_body, floating_body, floating_spread_body, deposit_body, loan_body, term_deposit_body, option_body, rates, curve_body, listed_body}

-- ends as: number 0 and the count of records kept, or the refusal's number and place
pub record Ending : Type 0 where
  pub number : ℕ
  pub place : ℕ

unfoldable pub ending_of : Checked (List Record) → Ending
ending_of (accepted kept) = record { number = 0; place = length kept }
ending_of (refused r place) = record { number = number_of r; place = place }

pub record Row : Type 0 where
  pub gives : Ending
  pub stated : Ending

-- with rooms and capital that do not matter
unfoldable pub ends : List ℕ → ℕ → ℕ → Row
ends book number place = record { gives = ending_of (outcome currencies book 1 202 4256); stated = record { number = number; place = place } }

unfoldable pub roomed : List ℕ → ℕ → ℕ → ℕ → ℕ → ℕ → Row
roomed book T report_room ledger_room number place =
    record { gives = ending_of (outcome currencies book T report_room ledger_room); stated = record { number = number; place = place } }

abbrev curve : ℕ → List ℕ
curve c = 8 ∷ curve_body c (in4 0) 400 0 0

abbrev listed : ℕ → List ℕ
listed c = 10 ∷ listed_body c 1 (J ∷ P ∷ Y ∷ []) (rates 19 (in4 0))

abbrev asset : ℕ → ℕ → List ℕ
asset c amount = 1 ∷ single_body c 1 12 0 amount

abbrev debt : ℕ → ℕ → List ℕ
debt c amount = 1 ∷ single_body c 2 12 0 amount

unfoldable pub books : List Row
books =
    roomed (0 ∷ []) 0 201 4256 18 0
    ∷ roomed (0 ∷ []) 0 202 4255 18 0
    ∷ roomed (replicate 65529 0) 0 202 4256 17 0
    ∷ roomed (0 ∷ []) 0 202 4256 16 0
    ∷ roomed [] 1000000000001 202 4256 16 0
    ∷ roomed [] 1000000000000 202 4256 0 0
    ∷ ends [] 0 0
    ∷ ends (0 ∷ []) 1 0
    ∷ ends (asset 1 5 ++ (255 ∷ [])) 1 10
    ∷ ends (asset 1 5 ++ (11 ∷ [])) 1 10
    ∷ ends (1 ∷ []) 2 0
    ∷ ends (asset 1 5 ++ (10 ∷ replicate 80 255)) 2 10
    ∷ ends (asset 1 5 ++ (9 ∷ replicate 19 255)) 2 10
    ∷ ends (asset 1 5 ++ (5 ∷ replicate 154 255)) 2 10
    ∷ ends (1 ∷ single_body 33 1 12 0 5) 3 1
    ∷ ends (asset 1 5 ++ (7 ∷ option_body 1 3 (in4 0))) 4 12
    ∷ ends (asset 1 5 ++ (2 ∷ coupons_body 1 1 6 101 1 1)) 5 14
    ∷ ends (asset 1 5 ++ (9 ∷ floating_spread_body 1 1 600 0 1 1 1 1 1)) 5 25
    ∷ ends (asset 1 5 ++ (3 ∷ floating_body 1 1 12 0 1000000001 1)) 6 16
    ∷ ends (asset 1 5 ++ (9 ∷ floating_spread_body 1 1 12 0 1 1 1 1 1000000001)) 6 27
    ∷ ends (6 ∷ term_deposit_body 1 10001 (only 6 1)) 7 2
    ∷ ends (4 ∷ deposit_body 1 4 1 (only 6 1)) 8 2
    ∷ ends (4 ∷ deposit_body 1 1 1000 (only 2 901)) 9 0
    ∷ ends (4 ∷ deposit_body 1 1 1000 (pair 11 449 451)) 10 0
    ∷ ends (5 ∷ loan_body 1 1000 (only 9 1000) (only 10 100)) 11 116
    ∷ ends (asset 1 5 ++ (5 ∷ loan_body 1 1000 (only 9 1000) (pair 10 100 100))) 11 126
    ∷ ends (curve 1 ++ asset 2 5 ++ curve 1) 12 94
    ∷ ends (asset 1 5 ++ (8 ∷ curve_body 1 (below4 50000) 1 0 0)) 13 12
    ∷ ends (asset 1 5 ++ (8 ∷ curve_body 1 (in4 0) 0 1001 0)) 13 90
    ∷ ends (asset 1 1000000000 ++ debt 2 1 ++ debt 1 1) 14 20
    ∷ ends (asset 1 600000000 ++ debt 1 400000000 ++ asset 1 1) 14 20
    ∷ ends (7 ∷ option_body 1 1 (in4 1000000000) ++ (7 ∷ option_body 1 2 (in4 1))) 14 27
    ∷ ends (5 ∷ loan_body 1 1000 (only 9 1000000000) (only 9 1)) 14 0
    ∷ ends (asset 1 5 ++ (9 ∷ floating_spread_body 1 2 12 1 400000000 99999996 12 2 250000000)) 14 10
    ∷ ends (9 ∷ floating_spread_body 3 1 0 0 0 0 1 1 0 ++ curve 1) 15 3
    ∷ ends (asset 7 1 ++ asset 3 1 ++ curve 7 ++ (7 ∷ option_body 5 1 (in4 0))) 15 3
    ∷ ends (asset 1 500000000 ++ debt 1 500000000 ++ curve 1) 0 3
    ∷ ends (asset 1 5 ++ (9 ∷ floating_spread_body 1 2 12 1 400000000 99999995 12 2 250000000) ++ curve 1) 0 3
    ∷ []

-- kind 10, and the last currency, in a table of their own, because a claim may take so many steps and no more
unfoldable pub further_books : List Row
further_books =
    ends (curve 1 ++ listed 1) 12 84
    ∷ ends (listed 1 ++ curve 1) 12 82
    ∷ ends (asset 1 5 ++ (10 ∷ listed_body 1 3 (N ∷ Z ∷ D ∷ []) (rates 19 (in4 0)))) 19 10
    ∷ ends (asset 1 5 ++ (10 ∷ listed_body 1 2 (N ∷ Z ∷ D ∷ []) (rates 19 (in4 0)))) 20 10
    ∷ ends (asset 1 5 ++ listed 1) 0 2
    ∷ ends (curve 1 ++ asset 32 1) 15 32
    ∷ ends (asset 32 1 ++ curve 32) 0 2
    ∷ []

pub books-end : map (λ r. r.gives) books ≡ map (λ r. r.stated) books
unfolding books ends roomed ending_of rates any first sum total total_ℤ some nearest nearest_ℤ factorial not_after upper_ends bucket_of midpoints number_of ◌>>=◌ ◌>>◌ unless denominator series_term numerator billion_over_e short_share rate_changes shocked_rate kinds body_length currency_of is_curve prepayment_multipliers withdrawal_multipliers behavioural_rate weighed_core deposit_flow paid prepaid interest outstanding_at scheduled_at paid_at prepaid_at interest_at loan_flow moved term_deposit_flow sided due coupons_due flow_of flow adds magnitude of_currency used curved unknown_kind cut_short bad_currency bad_side bad_months bad_days bad_period bad_count bad_amount bad_option bad_share bad_category core_above_cap core_too_long interest_alone second_curve bad_rate bad_shock bad_shocked schedule_over flows_over options_over over_limit lacks_curve bad_capital book_too_long room_too_small signed field each decode_single decode_coupons decode_floating decode_deposit decode_loan decode_term_deposit decode_option decode_curve decode_floating_spread decode placed admitted record_at next_at walk_from walk covered outcome
books-end = refl

pub further-books-end : map (λ r. r.gives) further_books ≡ map (λ r. r.stated) further_books
unfolding further_books ends ending_of rates any first sum total total_ℤ some nearest nearest_ℤ factorial not_after upper_ends bucket_of midpoints number_of ◌>>=◌ ◌>>◌ unless denominator series_term numerator billion_over_e short_share rate_changes shocked_rate kinds body_length currency_of is_curve sided due flow_of flow adds magnitude of_currency used curved unknown_kind cut_short bad_currency bad_side bad_months bad_days bad_amount second_curve bad_rate bad_shock bad_shocked flows_over options_over over_limit lacks_curve bad_capital book_too_long room_too_small signed field each unknown_edition code_not_listed edition1 edition2 list_of line_of shocks_for listed_at decode_single decode_curve decode_listed_curve decode placed admitted record_at next_at walk_from walk covered outcome
further-books-end = refl
