-- What stands behind a report: `irdetail` reads what `irreport` reads and prints the same lines, then those that are defined here.
use Rattle.std.specs.Prelude.{ℕ, zero, suc, ◌+◌, ◌*◌, ◌/◌, ◌%◌, Bool, ◌&&◌, List, [], ◌∷◌, ◌++◌, ℤ, pos, ◌-ℤ◌, length, drop, if◌then◌else◌}
use Rattle.laws.specs.Tests.{◌is◌, ◌up_to◌}
use Rattle.laws.specs.Lists.{tabulate, tabulate_from}
use Rattle.laws.specs.Sums.{total}
use Rattle.laws.specs.Nearest.{rounded_up}
use Rattle.paper.specs.Refusals.{Checked, accepted, refused}
use Rattle.paper.specs.Ladder.{buckets}
use Rattle.paper.specs.Records.{Record, kind_count}
use Rattle.paper.specs.Flow.{scenarios, shocked}
use Rattle.paper.specs.Ledger.{Totals, totals, curved}
use Rattle.paper.specs.Change.{change, tolerance}
use Rattle.paper.specs.Verdict.{measure}
use Rattle.paper.specs.Fields.{byte}
use Rattle.paper.specs.Book.{next_at}
use Rattle.paper.specs.Program.{capital_in, program_outcome, decimal, with_sign, line, curved_lines, printed}

-- ---- the records that were taken

-- where they begin; the fuel is no less than the bytes left
unfoldable pub places_from : ℕ → List ℕ → ℕ → List ℕ
places_from zero book at = []
places_from (suc fuel) book at = if length book up_to at then [] else (at ∷ places_from fuel book (next_at book at))

unfoldable pub places : List ℕ → List ℕ
places book = places_from (length book) book 0

-- of a currency and a kind: every body begins with its currency
unfoldable pub is_of : List ℕ → ℕ → ℕ → ℕ → Bool
is_of book c kind at = byte book at is kind && byte book (suc at) is c

-- how many of the records at some places are
unfoldable pub among : List ℕ → List ℕ → ℕ → ℕ → ℕ
among book ps c kind = total (λ at. if is_of book c kind at then 1 else 0) ps

abbrev pub taken : List ℕ → ℕ → ℕ → ℕ
taken book = among book (places book)

-- ---- against Tier 1 capital T, in hundredths

-- 15T / 100
abbrev pub limit : ℕ → ℤ
limit T = pos (15 * T)

-- the limit less the measure m
unfoldable pub headroom : ℕ → ℕ → ℤ
headroom m T = limit T -ℤ pos (100 * m)

-- the measure in per cent of T, rounded up: it is above 15 exactly where the measure is above the limit (`share-above`)
unfoldable pub share : ℕ → ℕ → ℕ
share m T = rounded_up (10000 * m) T

-- ---- what it prints

-- hundredths, with two digits after the point
unfoldable pub pointed : ℕ → List ℕ
pointed n = decimal (n / 100) ++ (46 ∷ (48 + n / 10 % 10) ∷ (48 + n % 10) ∷ [])

unfoldable pub pointed_line : ℕ → ℤ → List ℕ
pointed_line letter z = letter ∷ 32 ∷ with_sign pointed z ++ (10 ∷ [])

-- U with currency and the tolerances of the six changes
abbrev pub tolerances_line : Totals → ℕ → List ℕ
tolerances_line t c = line 85 (pos c ∷ tabulate_from (λ i. pos (tolerance t c i)) 1 shocked)

-- Z with currency, scenario and the nineteen rates; F likewise with the nineteen net flows
abbrev pub rates_line : (ℕ → ℕ → ℕ → ℤ) → ℕ → ℕ → List ℕ
rates_line rate c i = line 90 (pos c ∷ pos i ∷ tabulate (rate c i) buckets)

abbrev pub flows_line : (ℕ → ℕ → ℕ → ℤ) → ℕ → ℕ → List ℕ
flows_line cell c i = line 70 (pos c ∷ pos i ∷ tabulate (cell c i) buckets)

-- for the base and each scenario, in order
unfoldable pub scenario_lines : (rate cell : ℕ → ℕ → ℕ → ℤ) → ℕ → ℕ → List ℕ
scenario_lines rate cell c zero = []
scenario_lines rate cell c (suc n) = scenario_lines rate cell c n ++ (rates_line rate c n ++ flows_line cell c n)

-- A with currency and the six add-ons
abbrev pub add_ons_line : (ℕ → ℕ → ℤ) → ℕ → List ℕ
add_ons_line add_on c = line 65 (pos c ∷ tabulate_from (add_on c) 1 shocked)

-- K with currency and how many of its records are of each kind
abbrev pub kinds_line : (ℕ → ℕ → ℤ) → ℕ → List ℕ
kinds_line count c = line 75 (pos c ∷ tabulate_from (count c) 1 kind_count)

unfoldable pub currency_text : Totals → (ℕ → ℕ → ℤ) → ℕ → List ℕ
currency_text t count c = tolerances_line t c ++ (scenario_lines t.rate t.cell c scenarios ++ (add_ons_line t.add_on c ++ kinds_line count c))

-- N with the number n of all records, T with the capital; L with the limit, H with the headroom, P with the share
unfoldable pub closing_text : ℕ → ℕ → ℕ → List ℕ
closing_text n m T =
    line 78 (pos n ∷ []) ++ (line 84 (pos T ∷ []) ++ (pointed_line 76 (limit T) ++ (pointed_line 72 (headroom m T) ++ pointed_line 80 (pos (share m T)))))

-- a refusal has nothing behind it
unfoldable pub behind : ℕ → List ℕ → Checked (List Record) → ℕ → List ℕ
behind top book (accepted kept) T =
    curved_lines (curved kept) (currency_text (totals kept) (λ c kind. pos (taken book c kind))) top
    ++ closing_text (length (places book)) (measure top (change (totals kept))) T
behind top book (refused r place) T = []

unfoldable pub detailed : ℕ → List ℕ → List ℕ
detailed top input = printed top input ++ behind top (drop 8 input) (program_outcome top input) (capital_in input)
