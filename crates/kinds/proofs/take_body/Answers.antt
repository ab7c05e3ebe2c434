-- `take_body`: the functions of the kinds.
use mathlib.Core.Bool.{false}
use native.Mathlib.Omega.{arith}
use mathlib.Core.Path.{ap}
use Rattle.paper.specs.Records.{currencies}
use Rattle.paper.proofs.KindTable.{single-kind, coupons-kind, floating-kind, deposit-kind, loan-kind, term-deposit-kind, option-kind, curve-kind, floating-spread-kind, listed-curve-kind, row-1, row-2, row-3, row-4, row-5, row-6, row-7, row-8, row-9, row-10}
use Rattle.kinds.specs.Kind.{kind_number}
use Rattle.kinds.proofs.Bodies.{row-body, flow-parts, option-parts, rate-parts, flows-body, option-body, curve-body}
use Rattle.kinds.proofs.take_body.Goals as goal

pub new-requires : goal.new-requires
new-requires c = (omega arith, row-body (row-1 currencies (λ _. false)) (ap kind_number c.in-Single.is) c.requires.body)

pub take_single-requires : goal.take_single-requires
take_single-requires c = record { flow_parts = flow-parts c.requires.parts_hold }

pub new-requires-in-Coupons : goal.new-requires-in-Coupons
new-requires-in-Coupons c = (omega arith, row-body (row-2 currencies (λ _. false)) (ap kind_number c.in-Coupons.is) c.requires.body)

pub take_coupons-requires : goal.take_coupons-requires
take_coupons-requires c = record { flow_parts = flow-parts c.requires.parts_hold }

pub new-requires-in-Floating : goal.new-requires-in-Floating
new-requires-in-Floating c = (omega arith, row-body (row-3 currencies (λ _. false)) (ap kind_number c.in-Floating.is) c.requires.body)

pub take_floating-requires : goal.take_floating-requires
take_floating-requires c = record { flow_parts = flow-parts c.requires.parts_hold }

pub new-requires-in-Deposit : goal.new-requires-in-Deposit
new-requires-in-Deposit c = (omega arith, row-body (row-4 currencies (λ _. false)) (ap kind_number c.in-Deposit.is) c.requires.body)

pub take_deposit-requires : goal.take_deposit-requires
take_deposit-requires c = record { flow_parts = flow-parts c.requires.parts_hold }

pub new-requires-in-Loan : goal.new-requires-in-Loan
new-requires-in-Loan c = (omega arith, row-body (row-5 currencies (λ _. false)) (ap kind_number c.in-Loan.is) c.requires.body)

pub take_loan-requires : goal.take_loan-requires
take_loan-requires c = record { flow_parts = flow-parts c.requires.parts_hold }

pub new-requires-in-TermDeposit : goal.new-requires-in-TermDeposit
new-requires-in-TermDeposit c = (omega arith, row-body (row-6 currencies (λ _. false)) (ap kind_number c.in-TermDeposit.is) c.requires.body)

pub take_term_deposit-requires : goal.take_term_deposit-requires
take_term_deposit-requires c = record { flow_parts = flow-parts c.requires.parts_hold }

pub new-requires-in-OptionAddOn : goal.new-requires-in-OptionAddOn
new-requires-in-OptionAddOn c = (omega arith, row-body (row-7 currencies (λ _. false)) (ap kind_number c.in-OptionAddOn.is) c.requires.body)

pub take_option-requires : goal.take_option-requires
take_option-requires c = record { option_parts = option-parts c.requires.parts_hold }

pub new-requires-in-Curve : goal.new-requires-in-Curve
new-requires-in-Curve c = (omega arith, row-body (row-8 currencies (λ _. false)) (ap kind_number c.in-Curve.is) c.requires.body)

pub take_curve-requires : goal.take_curve-requires
take_curve-requires c = record { rate_parts = rate-parts c.requires.parts_hold }

pub new-requires-in-FloatingSpread : goal.new-requires-in-FloatingSpread
new-requires-in-FloatingSpread c = (omega arith, row-body (row-9 currencies (λ _. false)) (ap kind_number c.in-FloatingSpread.is) c.requires.body)

pub take_floating_spread-requires : goal.take_floating_spread-requires
take_floating_spread-requires c = record { flow_parts = flow-parts c.requires.parts_hold }

pub new-requires-in-ListedCurve : goal.new-requires-in-ListedCurve
new-requires-in-ListedCurve c = (omega arith, row-body (row-10 currencies (λ _. false)) (ap kind_number c.in-ListedCurve.is) c.requires.body)

pub take_listed_curve-requires : goal.take_listed_curve-requires
take_listed_curve-requires c = record { rate_parts = rate-parts c.requires.parts_hold }

pub returns-in-Single : goal.returns-in-Single
returns-in-Single c = flows-body _ _ c.requires.parts_hold _ (row-1 currencies _) (ap kind_number c.in-Single.is) (single-kind currencies (λ _. false) _).only (rw c.new.ensures.0 at c.take_single.ensures)

pub returns-in-Coupons : goal.returns-in-Coupons
returns-in-Coupons c = flows-body _ _ c.requires.parts_hold _ (row-2 currencies _) (ap kind_number c.in-Coupons.is) (coupons-kind currencies (λ _. false) _).only (rw c.new-in-Coupons.ensures.0 at c.take_coupons.ensures)

pub returns-in-Floating : goal.returns-in-Floating
returns-in-Floating c = flows-body _ _ c.requires.parts_hold _ (row-3 currencies _) (ap kind_number c.in-Floating.is) (floating-kind currencies (λ _. false) _).only (rw c.new-in-Floating.ensures.0 at c.take_floating.ensures)

pub returns-in-Deposit : goal.returns-in-Deposit
returns-in-Deposit c = flows-body _ _ c.requires.parts_hold _ (row-4 currencies _) (ap kind_number c.in-Deposit.is) (deposit-kind currencies (λ _. false) _).only (rw c.new-in-Deposit.ensures.0 at c.take_deposit.ensures)

pub returns-in-Loan : goal.returns-in-Loan
returns-in-Loan c = flows-body _ _ c.requires.parts_hold _ (row-5 currencies _) (ap kind_number c.in-Loan.is) (loan-kind currencies (λ _. false) _).only (rw c.new-in-Loan.ensures.0 at c.take_loan.ensures)

pub returns-in-TermDeposit : goal.returns-in-TermDeposit
returns-in-TermDeposit c = flows-body _ _ c.requires.parts_hold _ (row-6 currencies _) (ap kind_number c.in-TermDeposit.is) (term-deposit-kind currencies (λ _. false) _).only (rw c.new-in-TermDeposit.ensures.0 at c.take_term_deposit.ensures)

pub returns-in-OptionAddOn : goal.returns-in-OptionAddOn
returns-in-OptionAddOn c = option-body _ _ c.requires.parts_hold _ (row-7 currencies _) (ap kind_number c.in-OptionAddOn.is) (option-kind currencies (λ _. false) _).only (rw c.new-in-OptionAddOn.ensures.0 at c.take_option.ensures)

pub returns-in-Curve : goal.returns-in-Curve
returns-in-Curve c = curve-body _ _ c.requires.parts_hold _ (row-8 currencies _) (ap kind_number c.in-Curve.is) (curve-kind currencies _ _).only (rw c.new-in-Curve.ensures.0 at c.take_curve.ensures)

pub returns-in-FloatingSpread : goal.returns-in-FloatingSpread
returns-in-FloatingSpread c = flows-body _ _ c.requires.parts_hold _ (row-9 currencies _) (ap kind_number c.in-FloatingSpread.is) (floating-spread-kind currencies (λ _. false) _).only (rw c.new-in-FloatingSpread.ensures.0 at c.take_floating_spread.ensures)

pub returns-in-ListedCurve : goal.returns-in-ListedCurve
returns-in-ListedCurve c = curve-body _ _ c.requires.parts_hold _ (row-10 currencies _) (ap kind_number c.in-ListedCurve.is) (listed-curve-kind currencies _ _).only (rw c.new-in-ListedCurve.ensures.0 at c.take_listed_curve.ensures)
