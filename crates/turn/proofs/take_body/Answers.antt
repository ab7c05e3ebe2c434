-- `take_body`: the currency is bad, the record refused, or taken.
use mathlib.Core.Bool.{Bool}
use mathlib.Core.Path.{◌≡◌, sym, ap, ◌∙◌}
use native.Mathlib.Omega.{arith}
use Rattle.paper.specs.Refusals.{accepted}
use Rattle.paper.specs.Records.{currencies}
use Rattle.paper.specs.Fields.{currency_at}
use Rattle.paper.specs.Sound.{Between}
use Rattle.paper.proofs.Checks.{known_of}
use Rattle.paper.proofs.Ranges.{currency-known}
use Rattle.arrays.specs.Masks.{marked_by}
use Rattle.arrays.specs.Arrays.{Arrays}
use Rattle.fields.specs.Answers.{as_it_is}
use Rattle.fields.proofs.Reading.{handed, value, bad}
use Rattle.kinds.specs.Kind.{kind_number}
use Rattle.kinds.proofs.Numbers.{number-known}
use Rattle.lending.specs.Records.{tested}
use Rattle.lending.specs.Working.{arrays_in}
use Rattle.turn.proofs.TurnLaws.{body-long, curves-hold, stepped-bad, stepped-done}
use Rattle.turn.proofs.take_body.Goals as goal
use Rattle.turn.proofs.take_body.Goals.{Start, In_ok-currency}

-- the arrays as they were found
abbrev found : Start → Arrays
found s = arrays_in s.args.working.now

-- the currency, once it is read
first : (c : In_ok-currency) → currency_at currencies c.args.body.now 0 ≡ accepted c.in_ok-currency.currency
first c = value c.in_ok-currency.ensures

range : (c : In_ok-currency) → Between 1 currencies c.in_ok-currency.currency
range c = known_of (currency-known {bytes = 1} c.args.body.now 0 (omega arith) currencies) c.in_ok-currency.currency (first c)

pub currency_at-requires : goal.currency_at-requires
currency_at-requires c = omega (arith, c.requires.0, body-long c.args.kind)

pub returns-in_err-currency-clause-steps : goal.returns-in_err-currency-clause-steps
returns-in_err-currency-clause-steps c = rw (handed _ c.from_residual.ensures.1) (stepped-bad _ (kind_number c.args.kind) _ c.args.masks _ (number-known c.args.kind) _ (bad as_it_is c.in_err-currency.ensures))

pub take-requires-clause-body : goal.take-requires-clause-body
take-requires-clause-body c =
    let w = (goal.at.take-requires-clause-body c).In_ok-currency in
    (record { long = c.requires.0; first = first w }, (range w).from, (range w).to)

pub take-requires-clause-holding : goal.take-requires-clause-holding
take-requires-clause-holding c = curves-hold c.requires.1

pub with_curve-requires : goal.with_curve-requires
with_curve-requires c = let r = range (goal.at.with_curve-requires c).In_ok-currency in (r.from, r.to)

pub returns-then-is_curve-clause-steps : goal.returns-then-is_curve-clause-steps
returns-then-is_curve-clause-steps c =
    let a = found (goal.at.returns-then-is_curve-clause-steps c).Start in
    let l = c.take.new in
    let same = sym c.if-is_curve.true ∙ c.is_curve.ensures in
    stepped-done (tested c.args.masks.curved a) (kind_number c.args.kind) c.args.body.now c.args.masks a c.in_ok-currency.currency (first (goal.at.returns-then-is_curve-clause-steps c).In_ok-currency)
    {a' = arrays_in l.self} (c.in_ok-take.ensures.taken.answered) c.in_ok-take.ensures.taken.arrays
    (c.with_curve.ensures ∙ ap (λ (x : Bool). marked_by x c.in_ok-currency.currency c.args.masks) same)

pub with_used-requires : goal.with_used-requires
with_used-requires c = let r = range (goal.at.with_used-requires c).In_ok-currency in (r.from, r.to)

pub returns-clause-steps : goal.returns-clause-steps
returns-clause-steps c =
    let a = found (goal.at.returns-clause-steps c).Start in
    let l = c.take.new in
    let same = sym c.if-is_curve.false ∙ c.is_curve.ensures in
    stepped-done (tested c.args.masks.curved a) (kind_number c.args.kind) c.args.body.now c.args.masks a c.in_ok-currency.currency (first (goal.at.returns-clause-steps c).In_ok-currency)
    {a' = arrays_in l.self} (c.in_ok-take.ensures.taken.answered) c.in_ok-take.ensures.taken.arrays
    (c.with_used.ensures ∙ ap (λ (x : Bool). marked_by x c.in_ok-currency.currency c.args.masks) same)
