-- Bodies of curves that are read: kind 8 at the end of its range, and kind 10 by both editions. Those that are refused stand with the other kinds' in `paper`; to work out
-- the shocked rates of all buckets takes longer than all of them.
use mathlib.Core.Bool.{false}
use mathlib.Core.List.{List, [], ◌∷◌, map}
use mathlib.Core.Path.{◌≡◌, refl}
use Prim.Native.Nat.{ℕ}
use lib.IntN.{pos}
use lib.ListN.{replicate}
use Rattle.laws.specs.Tests.{any, first}
use Rattle.laws.specs.Sums.{sum}
use Rattle.laws.specs.Nearest.{nearest, nearest_ℤ}
use Rattle.laws.specs.Series.{factorial}
use Rattle.paper.specs.Ladder.{midpoints}
use Rattle.paper.specs.Refusals.{Checked, accepted, ◌>>=◌, ◌>>◌, unless}
use Rattle.paper.specs.Series.{denominator, series_term, numerator, billion_over_e}
use Rattle.paper.specs.Curve.{short_share, rate_changes, shocked_rate}
use Rattle.paper.specs.Records.{Record, curve, currencies}
use Rattle.paper.specs.Letters.{E, R, U}
use Rattle.paper.specs.Published.{edition1, edition2, list_of, line_of, shocks_for}
use Rattle.paper.specs.TurnedDown.{bad_currency, second_curve, bad_rate, bad_shock, bad_shocked, unknown_edition, code_not_listed}
use Rattle.paper.specs.Fields.{signed, field, listed_at, each}
use Rattle.paper.specs.Decode.{decode_curve, decode_listed_curve, decode}
use Rattle.paper.proofs.Bytes.{in4, rates, curve_body, listed_body}
use Rattle.paper.proofs.DecodeCases.{Row}

-- all rates alike, and three shocks
abbrev flat : ℕ → ℕ → ℕ → ℕ → Checked Record
flat rate parallel short long = accepted (curve 8 (record { rates = replicate 19 (pos rate); shocks = record { parallel = parallel; short = short; long = long } }))

abbrev read : ℕ → List ℕ → Checked Record
read = decode currencies (λ c. false)

unfoldable pub curve_bodies : List Row
curve_bodies =
    record { body = read 8 (curve_body 8 (in4 300000) 0 0 0); is = flat 300000 0 0 0 }
    ∷ record { body = read 10 (listed_body 8 1 (E ∷ U ∷ R ∷ []) (rates 19 (in4 0))); is = flat 0 200 250 100 }
    ∷ record { body = read 10 (listed_body 8 2 (E ∷ U ∷ R ∷ []) (rates 19 (in4 0))); is = flat 0 225 350 200 }
    ∷ []

pub curves-read : map (λ r. r.body) curve_bodies ≡ map (λ r. r.is) curve_bodies
unfolding curve_bodies midpoints rates any first sum nearest nearest_ℤ factorial ◌>>=◌ ◌>>◌ unless denominator series_term numerator billion_over_e short_share rate_changes shocked_rate bad_currency second_curve bad_rate bad_shock bad_shocked unknown_edition code_not_listed signed field each edition1 edition2 list_of line_of shocks_for listed_at decode_curve decode_listed_curve decode
curves-read = refl
