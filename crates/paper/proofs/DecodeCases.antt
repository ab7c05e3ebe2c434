-- Bodies of each kind and what they are, or the refusal and the field's place in the record: one table with a single claim.
use Prim.Native.Nat.{ℕ, ◌-◌}
use mathlib.Core.Bool.{true, false}
use mathlib.Core.Path.{◌≡◌, refl}
use mathlib.Core.List.{List, [], ◌∷◌, ◌++◌, map}
use lib.IntN.{pos, negsuc}
use lib.ListN.{replicate}
use Rattle.laws.specs.Tests.{any, first}
use Rattle.laws.specs.Sums.{sum, total}
use Rattle.laws.specs.Nearest.{nearest, nearest_ℤ}
use Rattle.laws.specs.Series.{factorial}
use Rattle.paper.specs.declared.Refusal.TheVariants.{BadCurrency, BadSide, BadTerm, TooLarge, BadShare, BadCategory, CoreAboveCap, CoreTooLong, InterestAlone, SecondCurve, OutOfRange, OverLimit, UnknownEdition, CodeNotListed}
use Rattle.paper.specs.Ladder.{midpoints}
use Rattle.paper.specs.Refusals.{Checked, accepted, refused, ◌>>=◌, ◌>>◌, unless}
use Rattle.paper.specs.Series.{denominator, series_term, numerator, billion_over_e}
use Rattle.paper.specs.Curve.{short_share, rate_changes, shocked_rate}
use Rattle.paper.specs.Records.{Record, flows, single, coupons, floating, deposit, loan, term_deposit, floating_spread, option, currencies}
use Rattle.paper.specs.Behaviour.{weighed_core, scheduled_at}
use Rattle.paper.specs.TurnedDown.{bad_currency, bad_side, bad_months, bad_days, bad_period, bad_count, bad_amount, bad_option, bad_share, bad_category, core_above_cap, core_too_long, interest_alone, second_curve, bad_rate, bad_shock, bad_shocked, schedule_over, unknown_edition, code_not_listed}
use Rattle.paper.specs.Letters.{D, J, N, P, S, U, Y, Z}
use Rattle.paper.specs.Published.{edition1, edition2, list_of, line_of, shocks_for}
use Rattle.paper.specs.Fields.{signed, field, listed_at, each}
use Rattle.paper.specs.Decode.{decode_single, decode_coupons, decode_floating, decode_deposit, decode_loan, decode_term_deposit, decode_option, decode_curve, decode_floating_spread, decode_listed_curve, decode}
use Rattle.paper.proofs.Bytes.{in4, below4, only, pair, single_body, coupons_body, floating_body, floating_spread_body, deposit_body, loan_body, term_deposit_body, option_body, rates, rates_body, curve_body, listed_body}

pub record Row : Type 0 where
  pub body : Checked Record
  pub is : Checked Record

infix 1 ◌means◌
abbrev ◌means◌ : Checked Record → Checked Record → Row
body means is = record { body = body; is = is }

abbrev freshly : ℕ → List ℕ → Checked Record
freshly = decode currencies (λ c. false)

-- an amount at one bucket of a list of 19
abbrev at : ℕ → ℕ → List ℕ
at bucket amount = replicate (bucket - 1) 0 ++ (amount ∷ replicate (19 - bucket) 0)

unfoldable pub bodies : List Row
bodies =
    (freshly 1 (single_body 3 2 600 30 1000000000) means accepted (flows 3 (single 2 (record { months = 600; days = 30 }) 1000000000)))
    ∷ (freshly 1 (single_body 0 3 601 31 1000000001) means refused BadCurrency 1)
    ∷ (freshly 1 (single_body 33 3 601 31 1000000001) means refused BadCurrency 1)
    ∷ (freshly 1 (single_body 32 3 601 31 1000000001) means refused BadSide 2)
    ∷ (freshly 1 (single_body 32 1 601 31 1000000001) means refused BadTerm 3)
    ∷ (freshly 1 (single_body 32 1 600 31 1000000001) means refused BadTerm 5)
    ∷ (freshly 1 (single_body 32 1 600 30 1000000001) means refused TooLarge 6)
    ∷ (freshly 2 (coupons_body 1 1 12 50 7 300) means accepted (flows 1 (coupons 1 12 50 7 300)))
    ∷ (freshly 2 (coupons_body 1 1 2 0 7 1000000001) means refused BadTerm 3)
    ∷ (freshly 2 (coupons_body 1 1 3 0 7 1000000001) means refused BadTerm 4)
    ∷ (freshly 2 (coupons_body 1 1 12 51 1000000001 0) means refused BadTerm 4)
    ∷ (freshly 2 (coupons_body 1 1 1 600 1000000001 0) means refused TooLarge 6)
    ∷ (freshly 2 (coupons_body 1 1 1 600 7 1000000001) means refused TooLarge 10)
    ∷ (freshly 3 (floating_body 2 1 0 0 300 7) means accepted (flows 2 (floating 1 (record { months = 0; days = 0 }) 300 7)))
    ∷ (freshly 3 (floating_body 2 1 0 0 300 1000000001) means refused TooLarge 10)
    ∷ (freshly 4 (deposit_body 2 0 1000000001 (only 1 0)) means refused BadCategory 2)
    ∷ (freshly 4 (deposit_body 2 4 1000000001 (only 1 0)) means refused BadCategory 2)
    ∷ (freshly 4 (deposit_body 2 3 1000000001 (only 1 0)) means refused TooLarge 3)
    ∷ (freshly 4 (deposit_body 2 1 1000 (only 19 1000000001)) means refused TooLarge 79)
    ∷ (freshly 4 (deposit_body 2 1 1000 (pair 11 450 450)) means accepted (flows 2 (deposit 1 1000 (replicate 10 0 ++ (450 ∷ 450 ∷ replicate 7 0)))))
    ∷ (freshly 4 (deposit_body 2 1 1000 (pair 11 449 451)) means refused CoreTooLong 0)
    ∷ (freshly 4 (deposit_body 2 1 1000 (only 2 901)) means refused CoreAboveCap 0)
    ∷ (freshly 4 (deposit_body 2 2 1000 (only 2 700)) means accepted (flows 2 (deposit 2 1000 (at 2 700))))
    ∷ (freshly 4 (deposit_body 2 3 1000 (only 2 501)) means refused CoreAboveCap 0)
    ∷ (freshly 5 (loan_body 32 10001 (only 9 1000000001) (only 9 0)) means refused BadShare 2)
    ∷ (freshly 5 (loan_body 32 10000 (only 9 1000000001) (only 9 0)) means refused TooLarge 36)
    ∷ (freshly 5 (loan_body 32 10000 (only 19 1000000001) (only 1 1000000001)) means refused TooLarge 76)
    ∷ (freshly 5 (loan_body 32 10000 (only 19 1) (only 1 1000000001)) means refused TooLarge 80)
    ∷ (freshly 5 (loan_body 32 1000 (only 9 1000) (only 9 100)) means accepted (flows 32 (loan 1000 (at 9 1000) (at 9 100))))
    ∷ (freshly 5 (loan_body 32 1000 (only 9 1000) (only 10 100)) means refused InterestAlone 116)
    ∷ (freshly 5 (loan_body 32 1000 (only 9 1000) (pair 10 100 100)) means refused InterestAlone 116)
    ∷ (freshly 5 (loan_body 32 1000 (only 9 1000000000) (only 9 1)) means refused OverLimit 0)
    ∷ (freshly 6 (term_deposit_body 32 6000 (only 6 1000)) means accepted (flows 32 (term_deposit 6000 (at 6 1000))))
    ∷ (freshly 6 (term_deposit_body 32 10001 (only 6 1000)) means refused BadShare 2)
    ∷ (freshly 7 (option_body 32 2 (below4 1000000000)) means accepted (option 32 2 (pos 0 ∷ pos 0 ∷ pos 0 ∷ pos 0 ∷ pos 0 ∷ negsuc 999999999 ∷ [])))
    ∷ (freshly 7 (option_body 32 2 (below4 2147483648)) means refused TooLarge 23)
    ∷ (freshly 7 (option_body 32 2 (in4 1000000001)) means refused TooLarge 23)
    ∷ (decode currencies (λ c. true) 8 (curve_body 33 (below4 50001) 1001 0 0) means refused BadCurrency 1)
    ∷ (decode currencies (λ c. true) 8 (curve_body 32 (below4 50001) 1001 0 0) means refused SecondCurve 0)
    ∷ (freshly 8 (curve_body 32 (below4 50001) 1001 0 0) means refused OutOfRange 2)
    ∷ (freshly 8 (curve_body 32 (in4 300001) 1001 0 0) means refused OutOfRange 2)
    ∷ (freshly 8 (curve_body 32 (below4 50000) 1001 0 0) means refused OutOfRange 78)
    ∷ (freshly 8 (curve_body 32 (below4 50000) 0 0 1001) means refused OutOfRange 82)
    ∷ (freshly 8 (curve_body 32 (below4 50000) 1 0 0) means refused OutOfRange 2)
    ∷ (freshly 8 (rates_body 32 (rates 3 (in4 0) ++ below4 50000 ++ in4 300000 ++ rates 14 (in4 0)) 1 0 0) means refused OutOfRange 14)
    ∷ (freshly 8 (rates_body 32 (rates 4 (in4 0) ++ in4 300000 ++ below4 50000 ++ rates 13 (in4 0)) 1 0 0) means refused OutOfRange 18)
    ∷ (freshly 9 (floating_spread_body 2 1 588 30 300 7 12 1 5) means accepted (flows 2 (floating_spread 1 (record { months = 588; days = 30 }) 300 7 12 1 5)))
    ∷ (freshly 9 (floating_spread_body 2 1 0 0 300 7 1 600 0) means accepted (flows 2 (floating_spread 1 (record { months = 0; days = 0 }) 300 7 1 600 0)))
    ∷ (freshly 9 (floating_spread_body 2 3 601 31 300 1000000001 2 0 1000000001) means refused BadSide 2)
    ∷ (freshly 9 (floating_spread_body 2 1 601 31 300 1000000001 2 0 1000000001) means refused BadTerm 3)
    ∷ (freshly 9 (floating_spread_body 2 1 600 30 300 1000000001 2 0 1000000001) means refused TooLarge 10)
    ∷ (freshly 9 (floating_spread_body 2 1 600 30 300 7 2 0 1000000001) means refused BadTerm 14)
    ∷ (freshly 9 (floating_spread_body 2 1 588 30 300 7 12 0 1000000001) means refused BadTerm 15)
    ∷ (freshly 9 (floating_spread_body 2 1 589 0 300 7 12 1 1000000001) means refused BadTerm 15)
    ∷ (freshly 9 (floating_spread_body 2 1 600 0 300 7 1 1 1000000001) means refused BadTerm 15)
    ∷ (freshly 9 (floating_spread_body 2 1 588 30 300 7 12 1 1000000001) means refused TooLarge 17)
    ∷ (decode currencies (λ c. true) 10 (listed_body 33 3 (N ∷ Z ∷ D ∷ []) (rates 19 (below4 50001))) means refused BadCurrency 1)
    ∷ (decode currencies (λ c. true) 10 (listed_body 32 3 (N ∷ Z ∷ D ∷ []) (rates 19 (below4 50001))) means refused SecondCurve 0)
    ∷ (freshly 10 (listed_body 32 3 (N ∷ Z ∷ D ∷ []) (rates 19 (below4 50001))) means refused UnknownEdition 0)
    ∷ (freshly 10 (listed_body 32 0 (U ∷ S ∷ D ∷ []) (rates 19 (in4 0))) means refused UnknownEdition 0)
    ∷ (freshly 10 (listed_body 32 1 (N ∷ Z ∷ D ∷ []) (rates 19 (below4 50001))) means refused CodeNotListed 0)
    ∷ (freshly 10 (listed_body 32 1 (117 ∷ 115 ∷ 100 ∷ []) (rates 19 (in4 0))) means refused CodeNotListed 0)
    ∷ (freshly 10 (listed_body 32 2 (U ∷ S ∷ 32 ∷ []) (rates 19 (in4 0))) means refused CodeNotListed 0)
    ∷ (freshly 10 (listed_body 32 1 (U ∷ S ∷ D ∷ []) (rates 18 (in4 0) ++ in4 300001)) means refused OutOfRange 78)
    ∷ (freshly 10 (listed_body 32 2 (J ∷ P ∷ Y ∷ []) (rates 1 (in4 0) ++ in4 290001 ++ rates 17 (in4 0))) means refused OutOfRange 10)
    ∷ []

pub bodies-mean : map (λ r. r.body) bodies ≡ map (λ r. r.is) bodies
unfolding bodies rates any first sum total nearest nearest_ℤ factorial midpoints ◌>>=◌ ◌>>◌ unless denominator series_term numerator billion_over_e short_share rate_changes shocked_rate weighed_core scheduled_at bad_currency bad_side bad_months bad_days bad_period bad_count bad_amount bad_option bad_share bad_category core_above_cap core_too_long interest_alone second_curve bad_rate bad_shock bad_shocked schedule_over signed field each unknown_edition code_not_listed edition1 edition2 list_of line_of shocks_for listed_at decode_single decode_coupons decode_floating decode_deposit decode_loan decode_term_deposit decode_option decode_curve decode_floating_spread decode_listed_curve decode
bodies-mean = refl
