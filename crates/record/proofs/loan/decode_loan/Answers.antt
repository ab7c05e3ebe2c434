-- `decode_loan` meets its contract: the fields, then 11 and the record's own limb of 14.
use Prim.Native.Nat.{◌+◌, ◌≤◌, ◌<◌}
use mathlib.Core.Path.{ap}
use native.Mathlib.Omega.{arith}
use borrow.Author.Tests.{lt-ltb, le-ltb}
use Rattle.laws.specs.Sums.{sum_of}
use Rattle.paper.specs.declared.Refusal.TheVariants.{InterestAlone}
use Rattle.paper.specs.Scales.{billion}
use Rattle.paper.specs.Refusals.{refused, ◌>>=◌, ◌>>◌, unless, checked_as}
use Rattle.paper.specs.TurnedDown.{schedule_over}
use Rattle.paper.specs.Decode.{decode_loan}
use Rattle.fields.specs.Answers.{as_it_is, amounts_from, total}
use Rattle.fields.proofs.Reading.{handed, value, bad}
use Rattle.fields.proofs.AmountLaws.{Amounting, amounts-summed}
use Rattle.record.proofs.Firsts.{some_first, no_first}
use Rattle.record.proofs.loan.decode_loan.Goals as goal
use Rattle.record.proofs.loan.decode_loan.Goals.{In_ok-principal, In_ok-interest}

-- the two rows, once they are read
principals : (c : In_ok-principal) → Amounting c.args.body.bytes.now 3 c.in_ok-principal.principal.0
principals c = amounts-summed _ 3 c.in_ok-principal.ensures

interests : (c : In_ok-interest) → Amounting c.args.body.bytes.now 79 c.in_ok-interest.interest.0
interests c = amounts-summed _ 79 c.in_ok-interest.ensures

pub returns-in_err-share : goal.returns-in_err-share
unfolding decode_loan ◌>>=◌ checked_as
returns-in_err-share c = rw (handed _ c.from_residual.ensures.1, c.args.body.known.first, bad as_it_is c.in_err-share.ensures)

pub returns-in_err-principal : goal.returns-in_err-principal
unfolding decode_loan ◌>>=◌ checked_as
returns-in_err-principal c = rw (handed _ c.from_residual-in_err-principal.ensures.1, c.args.body.known.first, value c.in_ok-share.ensures, bad total c.in_err-principal.ensures)

pub returns-in_err-interest : goal.returns-in_err-interest
unfolding decode_loan ◌>>=◌ checked_as
returns-in_err-interest c =
    let g = goal.at.returns-in_err-interest c in
    rw (handed _ c.from_residual-in_err-interest.ensures.1, c.args.body.known.first, value c.in_ok-share.ensures, (principals g.In_ok-principal).list, bad total c.in_err-interest.ensures)

pub interest_alone-requires-clause-principal_value : goal.interest_alone-requires-clause-principal_value
interest_alone-requires-clause-principal_value c = (amounts-summed _ 3 c.in_ok-principal.ensures).total

pub returns-in-Some : goal.returns-in-Some
unfolding decode_loan unless ◌>>=◌ ◌>>◌ checked_as
returns-in-Some c =
    let g = goal.at.returns-in-Some c in
    let f = some_first _ _ c.in-Some.ensures in
    rw (
      c.args.body.known.first,
      value c.in_ok-share.ensures,
      (principals g.In_ok-principal).list,
      (interests g.In_ok-interest).list,
      f.0,
      lt-ltb _ _ f.1,
    )
    (ap (refused InterestAlone) (omega arith))

pub overflow_add-principal : goal.overflow_add-principal
overflow_add-principal c =
    let g = goal.at.overflow_add-principal c in
    record { fits = omega (arith, (principals g.In_ok-principal).small, (interests g.In_ok-interest).small) }

pub returns-then-principal-interest-gt1000000000 : goal.returns-then-principal-interest-gt1000000000
unfolding decode_loan schedule_over unless ◌>>=◌ ◌>>◌ checked_as
returns-then-principal-interest-gt1000000000 c =
    let g = goal.at.returns-then-principal-interest-gt1000000000 c in
    let body = c.args.body.bytes.now in
    let over : billion < sum_of (amounts_from body 3) + sum_of (amounts_from body 79) = omega (arith, (principals g.In_ok-principal).total, (interests g.In_ok-interest).total) in
    rw (
      c.record_fault.ensures,
      c.args.body.known.first,
      value c.in_ok-share.ensures,
      (principals g.In_ok-principal).list,
      (interests g.In_ok-interest).list,
      no_first _ _ c.in_default.ensures,
      lt-ltb _ _ over,
    )

pub returns : goal.returns
unfolding decode_loan schedule_over unless ◌>>=◌ ◌>>◌ checked_as
returns c =
    let g = goal.at.returns c in
    let body = c.args.body.bytes.now in
    let within : sum_of (amounts_from body 3) + sum_of (amounts_from body 79) ≤ billion = omega (arith, (principals g.In_ok-principal).total, (interests g.In_ok-interest).total) in
    rw (
      c.args.body.known.first,
      value c.in_ok-share.ensures,
      (principals g.In_ok-principal).list,
      (interests g.In_ok-interest).list,
      no_first _ _ c.in_default.ensures,
      le-ltb _ _ within,
    )
