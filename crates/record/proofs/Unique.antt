-- A decoder's contract permits one answer: what reads its answers takes two of them to one only if they are one.
use Prim.Native.Nat.{ℕ}
use mathlib.Core.List.{List}
use mathlib.Core.Path.{◌≡◌, ap}
use lib.IntN.{pos}
use lib.ListN.{get_or}
use Rattle.std.specs.Prelude.{Result, Ok, Err}
use Rattle.paper.specs.declared.Fault.{Fault}
use Rattle.paper.specs.Refusals.{checked_as}
use Rattle.paper.specs.Ladder.{Term}
use Rattle.paper.specs.Records.{Record, flows, option}
use Rattle.curve.specs.Shocked.{curve_of}
use Rattle.scales.specs.declared.SignedThousands.{SignedThousands}
use Rattle.fields.specs.Answers.{thousands, signed_thousands, rates_from}
use Rattle.record.specs.declared.single.Single.{Single}
use Rattle.record.specs.declared.coupons.Coupons.{Coupons}
use Rattle.record.specs.declared.floating.Floating.{Floating}
use Rattle.record.specs.declared.floating_spread.FloatingSpread.{FloatingSpread}
use Rattle.record.specs.declared.deposit.Deposit.{Deposit}
use Rattle.record.specs.declared.loan.Loan.{Loan}
use Rattle.record.specs.declared.term_deposit.TermDeposit.{TermDeposit}
use Rattle.record.specs.declared.option_add_on.OptionAddOn.{OptionAddOn}
use Rattle.record.specs.Answers.{single_of, coupons_of, floating_of, floating_spread_of, deposit_of, loan_of, term_deposit_of, values_of, curve_record}

abbrev pub OneAnswer : {S : Type 0} → (S → Record) → Type 0
OneAnswer {S} as_paper = (a b : Result S Fault) → checked_as as_paper a ≡ checked_as as_paper b → a ≡ b

-- an answer holds fields or a fault: so it is as one as its fields are
one : {S : Type 0} (as_paper : S → Record) → ((s t : S) → as_paper s ≡ as_paper t → s ≡ t) → OneAnswer as_paper
unfolding checked_as
one as_paper same (Ok s) (Ok t) e = ap Ok (same s t (cc))
one as_paper same (Ok s) (Err g) e = cc
one as_paper same (Err f) (Ok t) e = cc
one as_paper same (Err f) (Err g) e =
    let cause : f.cause ≡ g.cause = cc in
    let place : f.place ≡ g.place = cc in
    λ i. Err (record { cause = cause i; place = place i })

pub one_single : OneAnswer (λ (s : Single). flows s.currency (single_of s))
one_single =
    one _
    (λ s t e.
    let currency : s.currency ≡ t.currency = cc in
    let side : s.side ≡ t.side = cc in
    let term : ◌≡◌ {A = Term} (record { months = s.months; days = s.days }) (record { months = t.months; days = t.days }) = cc in
    let amount : s.amount.0 ≡ t.amount.0 = cc in
    λ i. record { currency = currency i; side = side i; months = (term i).months; days = (term i).days; amount = thousands (amount i) })

pub one-coupons : OneAnswer (λ (s : Coupons). flows s.currency (coupons_of s))
one-coupons =
    one _
    (λ s t e.
    let currency : s.currency ≡ t.currency = cc in
    let side : s.side ≡ t.side = cc in
    let period : s.period ≡ t.period = cc in
    let count : s.count ≡ t.count = cc in
    let coupon : s.coupon.0 ≡ t.coupon.0 = cc in
    let principal : s.principal.0 ≡ t.principal.0 = cc in
    λ i. record { currency = currency i; side = side i; period = period i; count = count i; coupon = thousands (coupon i); principal = thousands (principal i) })

-- kind 3's fields, which kind 9 has too
abbrev reset_of : Floating → Term
reset_of f = record { months = f.months; days = f.days }

same-floating : (f g : Floating) → f.currency ≡ g.currency → f.side ≡ g.side → reset_of f ≡ reset_of g → f.principal.0 ≡ g.principal.0 → f.coupon.0 ≡ g.coupon.0 → f ≡ g
same-floating f g currency side reset principal coupon =
    λ i. record { currency = currency i; side = side i; months = (reset i).months; days = (reset i).days; principal = thousands (principal i); coupon = thousands (coupon i) }

pub one-floating : OneAnswer (λ (s : Floating). flows s.currency (floating_of s))
one-floating =
    one _
    (λ s t e.
    let reset : reset_of s ≡ reset_of t = cc in
    same-floating s t (cc) (cc) reset (cc) (cc))

pub one-floating-spread : OneAnswer (λ (s : FloatingSpread). flows s.floating.currency (floating_spread_of s))
one-floating-spread =
    one _
    (λ s t e.
    let reset : reset_of s.floating ≡ reset_of t.floating = cc in
    let floating : s.floating ≡ t.floating = same-floating s.floating t.floating (cc) (cc) reset (cc) (cc) in
    let period : s.period ≡ t.period = cc in
    let count : s.count ≡ t.count = cc in
    let spread : s.spread.0 ≡ t.spread.0 = cc in
    λ i. record { floating = floating i; period = period i; count = count i; spread = thousands (spread i) })

pub one-deposit : (body : List ℕ) → OneAnswer (λ (s : Deposit). flows s.currency (deposit_of body s))
one-deposit body =
    one _
    (λ s t e.
    let currency : s.currency ≡ t.currency = cc in
    let category : s.category ≡ t.category = cc in
    let total : s.total.0 ≡ t.total.0 = cc in
    λ i. record { currency = currency i; category = category i; total = thousands (total i) })

pub one-loan : (body : List ℕ) → OneAnswer (λ (s : Loan). flows s.currency (loan_of body s))
one-loan body =
    one _
    (λ s t e.
    let currency : s.currency ≡ t.currency = cc in
    let share : s.share ≡ t.share = cc in
    λ i. record { currency = currency i; share = share i })

pub one-term-deposit : (body : List ℕ) → OneAnswer (λ (s : TermDeposit). flows s.currency (term_deposit_of body s))
one-term-deposit body =
    one _
    (λ s t e.
    let currency : s.currency ≡ t.currency = cc in
    let share : s.share ≡ t.share = cc in
    λ i. record { currency = currency i; share = share i })

pub one-option : OneAnswer (λ (s : OptionAddOn). option s.currency s.side (values_of s))
one-option =
    one _
    (λ s t e.
    let currency : s.currency ≡ t.currency = cc in
    let side : s.side ≡ t.side = cc in
    let values : values_of s ≡ values_of t = cc in
    λ i.
    let at : ℕ → SignedThousands = λ j. signed_thousands (get_or (values i) j (pos 0)) in
    record { currency = currency i; side = side i; up = at 0; down = at 1; steepener = at 2; flattener = at 3; short_up = at 4; short_down = at 5 })

pub one-curve : (body : List ℕ) (o : ℕ) → OneAnswer (curve_record body o)
one-curve body o =
    one _
    (λ s t e.
    let currency : s.currency ≡ t.currency = cc in
    let drawn : curve_of (rates_from body o) s.shocks ≡ curve_of (rates_from body o) t.shocks = cc in
    λ i. record { currency = currency i; shocks = record { parallel = (drawn i).shocks.parallel; short = (drawn i).shocks.short; long = (drawn i).shocks.long } })
