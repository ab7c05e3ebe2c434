-- What one record puts into scenario i (0 is the base) and bucket k + 1: flows, add-ons, rates.
use Rattle.std.specs.Prelude.{ℕ, suc, ◌+◌, ◌*◌, ◌-◌, ℤ, pos, neg_ℤ, nat_abs, get_or, if◌then◌else◌}
use Rattle.laws.specs.Tests.{◌is◌}
use Rattle.laws.specs.Sums.{sum}
use Rattle.paper.specs.Ladder.{buckets, Term, in_months, today, later, bucket_of}
use Rattle.paper.specs.Curve.{shocked_rate}
use Rattle.paper.specs.Records.{Flows, single, coupons, floating, deposit, loan, term_deposit, floating_spread, Record, flows, option, curve}
use Rattle.paper.specs.Behaviour.{deposit_flow, prepayment_rate, withdrawal_rate, loan_flow, term_deposit_flow}

-- scenarios: the base and the six
abbrev pub scenarios : ℕ
scenarios = 7

-- the six, 1 to 6
abbrev pub shocked : ℕ
shocked = 6

-- side 1 is plus, an asset or an option sold; side 2 is minus, a liability or an option bought
unfoldable pub sided : ℕ → ℤ → ℤ
sided side z = if side is 1 then z else neg_ℤ z

-- an amount due at a term, as bucket k + 1 sees it
unfoldable pub due : Term → ℕ → ℕ → ℕ
due term amount k = if bucket_of term is suc k then amount else 0

-- a coupon at the end of each of so many periods after a start; kind 9's spread likewise
unfoldable pub coupons_due : Term → ℕ → ℕ → ℕ → ℕ → ℕ
coupons_due start period count coupon k = sum (λ j. due (later (period * suc j) start) coupon k) count

-- kinds 1 to 6 and 9
unfoldable pub flow_of : Flows → ℕ → ℕ → ℤ
flow_of (single side term amount) i k = sided side (pos (due term amount k))
flow_of (coupons side period count coupon principal) i k =
    sided side (pos (coupons_due today period count coupon k + due (in_months (period * count)) principal k))
flow_of (floating side reset principal coupon) i k = sided side (pos (due reset (principal + coupon) k))
flow_of (deposit category total core) i k = neg_ℤ (pos (deposit_flow total core k))
flow_of (loan share principals interests) i k = pos (loan_flow (prepayment_rate share i) principals interests k)
flow_of (term_deposit share amounts) i k = neg_ℤ (pos (term_deposit_flow (withdrawal_rate share i) amounts k))
flow_of (floating_spread side reset principal coupon period count spread) i k =
    sided side (pos (coupons_due reset period count spread k + due reset (principal + coupon) k))

-- an option and a curve make no flow
unfoldable pub flow : Record → ℕ → ℕ → ℤ
flow (flows c f) i k = flow_of f i k
flow (option c side values) i k = pos 0
flow (curve c z) i k = pos 0

-- what a record adds to its currency's add-on in scenario i, 1 to 6: only kind 7 does
unfoldable pub adds : Record → ℕ → ℤ
adds (flows c f) i = pos 0
adds (option c side values) i = sided side (get_or values (i - 1) (pos 0))
adds (curve c z) i = pos 0

-- the rate that a record gives its currency: only a curve does
unfoldable pub gives : Record → ℕ → ℕ → ℤ
gives (flows c f) i k = pos 0
gives (option c side values) i k = pos 0
gives (curve c z) i k = shocked_rate z i k

-- a record's flow magnitudes in one scenario, gross
unfoldable pub magnitude : Record → ℕ → ℕ
magnitude r i = sum (λ k. nat_abs (flow r i k)) buckets
