-- The body of each kind: fields as laid out, first refusal first; then 9, 10, 11 and the record's own limb of 14.
use Rattle.std.specs.Prelude.{ℕ, suc, ◌+◌, ◌*◌, Bool, List, if◌then◌else◌}
use Rattle.laws.specs.Tests.{◌is◌, ◌below◌, first}
use Rattle.paper.specs.declared.Refusal.TheVariants.{UnknownKind, CoreAboveCap, CoreTooLong, InterestAlone, SecondCurve, OutOfRange, OverLimit}
use Rattle.paper.specs.Ladder.{buckets}
use Rattle.paper.specs.Refusals.{Checked, accepted, refused, ◌>>=◌, ◌>>◌, refuse_if}
use Rattle.paper.specs.Curve.{Curve}
use Rattle.paper.specs.Records.{Record, flows, option, curve, single, coupons, floating, deposit, loan, term_deposit, floating_spread}
use Rattle.paper.specs.TurnedDown.{core_above_cap, core_too_long, interest_alone, second_curve, bad_shocked, schedule_over}
use Rattle.paper.specs.Fields.{currency_at, side_at, months_at, days_at, period_at, count_at, amount_at, option_at, share_at, category_at, rate_at, shock_at, listed_at, each}

-- a curve whose rates begin at o in the body: shocked rates come last
abbrev pub drawn : ℕ → Curve → ℕ → Checked Record
drawn currency z o =
    let k = first (bad_shocked z) 0 buckets in
    do
      refuse_if (k below buckets) OutOfRange (suc (o + 4 * k))
      accepted (curve currency z)

module _ (top : ℕ) where
  -- 1: currency, side, months (2), days (1), amount
  unfoldable pub decode_single : List ℕ → Checked Record
  decode_single body = do
    currency ← currency_at top body 0
    side ← side_at body 1
    months ← months_at body 2
    days ← days_at body 4
    amount ← amount_at body 5
    accepted (flows currency (single side (record { months = months; days = days }) amount))

  -- 2: currency, side, period (1), count (2), coupon, principal
  unfoldable pub decode_coupons : List ℕ → Checked Record
  decode_coupons body = do
    currency ← currency_at top body 0
    side ← side_at body 1
    period ← period_at body 2
    count ← count_at 0 period body 3
    coupon ← amount_at body 5
    principal ← amount_at body 9
    accepted (flows currency (coupons side period count coupon principal))

  -- 3: currency, side, months (2), days (1), principal, coupon
  unfoldable pub decode_floating : List ℕ → Checked Record
  decode_floating body = do
    currency ← currency_at top body 0
    side ← side_at body 1
    months ← months_at body 2
    days ← days_at body 4
    principal ← amount_at body 5
    coupon ← amount_at body 9
    accepted (flows currency (floating side (record { months = months; days = days }) principal coupon))

  -- 4: currency, category (1), total, 19 core amounts
  unfoldable pub decode_deposit : List ℕ → Checked Record
  decode_deposit body = do
    currency ← currency_at top body 0
    category ← category_at body 1
    total ← amount_at body 2
    core ← each (amount_at body) buckets 6
    refuse_if (core_above_cap category total core) CoreAboveCap 0
    refuse_if (core_too_long category core) CoreTooLong 0
    accepted (flows currency (deposit category total core))

  -- 5: currency, share, 19 scheduled principals, 19 scheduled interests
  unfoldable pub decode_loan : List ℕ → Checked Record
  decode_loan body = do
    currency ← currency_at top body 0
    share ← share_at body 1
    principals ← each (amount_at body) buckets 3
    interests ← each (amount_at body) buckets 79
    let k = first (interest_alone principals interests) 0 buckets
    refuse_if (k below buckets) InterestAlone (suc (79 + 4 * k))
    refuse_if (schedule_over principals interests) OverLimit 0
    accepted (flows currency (loan share principals interests))

  -- 6: currency, share, 19 amounts
  unfoldable pub decode_term_deposit : List ℕ → Checked Record
  decode_term_deposit body = do
    currency ← currency_at top body 0
    share ← share_at body 1
    amounts ← each (amount_at body) buckets 3
    accepted (flows currency (term_deposit share amounts))

  -- 7: currency, side (1 sold, 2 bought), six signed values
  unfoldable pub decode_option : List ℕ → Checked Record
  decode_option body = do
    currency ← currency_at top body 0
    side ← side_at body 1
    values ← each (option_at body) 6 2
    accepted (option currency side values)

  -- 8: currency, 19 signed rates, parallel, short, long shock (2 each). 12 comes after the currency
  unfoldable pub decode_curve : (ℕ → Bool) → List ℕ → Checked Record
  decode_curve curved body = do
    currency ← currency_at top body 0
    refuse_if (second_curve curved currency) SecondCurve 0
    rates ← each (rate_at body) buckets 1
    parallel ← shock_at body 77
    short ← shock_at body 79
    long ← shock_at body 81
    drawn currency (record { rates = rates; shocks = record { parallel = parallel; short = short; long = long } }) 1

  -- 9 (02, request 1): as kind 3; then period (1), count (2), spread. The last month is counted from the reset
  unfoldable pub decode_floating_spread : List ℕ → Checked Record
  decode_floating_spread body = do
    currency ← currency_at top body 0
    side ← side_at body 1
    months ← months_at body 2
    days ← days_at body 4
    principal ← amount_at body 5
    coupon ← amount_at body 9
    period ← period_at body 13
    count ← count_at months period body 14
    spread ← amount_at body 16
    accepted (flows currency (floating_spread side (record { months = months; days = days }) principal coupon period count spread))

  -- 10 (02, request 5): currency, edition (1), code (3), 19 signed rates; the shocks are those listed. 12 comes after the currency
  unfoldable pub decode_listed_curve : (ℕ → Bool) → List ℕ → Checked Record
  decode_listed_curve curved body = do
    currency ← currency_at top body 0
    refuse_if (second_curve curved currency) SecondCurve 0
    shocks ← listed_at body 1
    rates ← each (rate_at body) buckets 5
    drawn currency (record { rates = rates; shocks = shocks }) 5

  -- by the kind, told which currencies have a curve
  unfoldable pub decode : (ℕ → Bool) → ℕ → List ℕ → Checked Record
  decode curved kind body =
      if kind is 1 then decode_single body else
      if kind is 2 then decode_coupons body else
      if kind is 3 then decode_floating body else
      if kind is 4 then decode_deposit body else
      if kind is 5 then decode_loan body else
      if kind is 6 then decode_term_deposit body else
      if kind is 7 then decode_option body else
      if kind is 8 then decode_curve curved body else
      if kind is 9 then decode_floating_spread body else
      if kind is 10 then decode_listed_curve curved body else
      refused UnknownKind 0
