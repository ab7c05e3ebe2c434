-- What was decoded, in the paper's words: `checked_as` makes a record or a refusal of a decoder's answer. Amounts and rates by bucket stay in the body.
use Rattle.std.specs.Prelude.{ℕ, List, [], ◌∷◌, ◌≡◌, ℤ, length, Result}
use Rattle.paper.specs.declared.Fault.{Fault}
use Rattle.paper.specs.Refusals.{Checked, accepted, result_of}
use Rattle.paper.specs.Records.{Record, Flows, curve, single, coupons, floating, deposit, loan, term_deposit, floating_spread, currencies}
use Rattle.paper.specs.Fields.{currency_at}
use Rattle.paper.specs.declared.Shocks.{Shocks}
use Rattle.curve.specs.Shocked.{curve_of}
use Rattle.fields.specs.Answers.{amounts_from, rates_from}
use Rattle.record.specs.declared.single.Single.{Single}
use Rattle.record.specs.declared.coupons.Coupons.{Coupons}
use Rattle.record.specs.declared.floating.Floating.{Floating}
use Rattle.record.specs.declared.floating_spread.FloatingSpread.{FloatingSpread}
use Rattle.record.specs.declared.deposit.Deposit.{Deposit}
use Rattle.record.specs.declared.loan.Loan.{Loan}
use Rattle.record.specs.declared.term_deposit.TermDeposit.{TermDeposit}
use Rattle.record.specs.declared.option_add_on.OptionAddOn.{OptionAddOn}
use Rattle.record.specs.declared.curves.Curve.{Curve}

-- a whole body of so many bytes, whose first field, the currency, has been read
pub record IsBody (bytes currency : ℕ) (body : List ℕ) : Type 0 where
  pub long : length body ≡ bytes
  pub first : currency_at currencies body 0 ≡ accepted currency

abbrev pub single_of : Single → Flows
single_of s = single s.side (record { months = s.months; days = s.days }) s.amount.0

abbrev pub coupons_of : Coupons → Flows
coupons_of s = coupons s.side s.period s.count s.coupon.0 s.principal.0

abbrev pub floating_of : Floating → Flows
floating_of s = floating s.side (record { months = s.months; days = s.days }) s.principal.0 s.coupon.0

abbrev pub floating_spread_of : FloatingSpread → Flows
floating_spread_of s =
    let f = s.floating in
    floating_spread f.side (record { months = f.months; days = f.days }) f.principal.0 f.coupon.0 s.period s.count s.spread.0

abbrev pub deposit_of : List ℕ → Deposit → Flows
deposit_of body s = deposit s.category s.total.0 (amounts_from body 6)

abbrev pub loan_of : List ℕ → Loan → Flows
loan_of body s = loan s.share (amounts_from body 3) (amounts_from body 79)

abbrev pub term_deposit_of : List ℕ → TermDeposit → Flows
term_deposit_of body s = term_deposit s.share (amounts_from body 3)

-- the values of scenarios 1 to 6 in turn
abbrev pub values_of : OptionAddOn → List ℤ
values_of s = s.up.0 ∷ s.down.0 ∷ s.steepener.0 ∷ s.flattener.0 ∷ s.short_up.0 ∷ s.short_down.0 ∷ []

-- a curve's rates begin at o in the body: at 1 in kind 8, at 5 in kind 10
abbrev pub curve_record : List ℕ → ℕ → Curve → Record
curve_record body o s = curve s.currency (curve_of (rates_from body o) s.shocks)

-- such a curve, or the fault in its shocked rates
abbrev pub drawn_of : ℕ → Shocks → Checked Record → Result Curve Fault
drawn_of currency shocks = result_of (λ _. record { currency = currency; shocks = shocks })
