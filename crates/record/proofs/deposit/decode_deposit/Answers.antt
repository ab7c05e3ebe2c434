-- `decode_deposit` meets its contract: the fields, then 9 and 10.
use Prim.Native.Nat.{ℕ, ◌*◌}
use mathlib.Core.Bool.{Bool}
use mathlib.Core.List.{List}
use mathlib.Core.Path.{◌≡◌, sym, ap, ap₂, ◌∙◌}
use native.Mathlib.Omega.{arith}
use Rattle.laws.specs.Tests.{◌below◌}
use Rattle.paper.specs.Refusals.{◌>>=◌, ◌>>◌, unless, checked_as}
use Rattle.paper.specs.Behaviour.{core_cap, average_cap, weighed_core}
use Rattle.paper.specs.TurnedDown.{core_above_cap, core_too_long}
use Rattle.paper.specs.Decode.{decode_deposit}
use Rattle.paper.proofs.Checks.{known_of}
use Rattle.paper.proofs.Ranges.{amount-known}
use Rattle.fields.specs.Answers.{as_it_is, thousands, amounts_from, total}
use Rattle.fields.proofs.Reading.{handed, value, bad, amount-value}
use Rattle.fields.proofs.AmountLaws.{Amounting, amounts-summed}
use Rattle.record.proofs.deposit.decode_deposit.Goals as goal
use Rattle.record.proofs.deposit.decode_deposit.Goals.{In_ok-core}

-- the core, once it is read, and the two tests of it
core : (c : In_ok-core) → Amounting c.args.body.bytes.now 6 c.in_ok-core.core.0
core c = amounts-summed _ 6 c.in_ok-core.ensures

cap-tested : {body : List ℕ} {s : ℕ} (category total : ℕ) {r : Bool} → Amounting body 6 s → r ≡ (core_cap category * total below 100 * s)
    → core_above_cap category total (amounts_from body 6) ≡ r
unfolding core_above_cap
cap-tested category total a e = ap (λ (x : ℕ). core_cap category * total below 100 * x) (sym a.total) ∙ sym e

average-tested : {body : List ℕ} {s w : ℕ} (category : ℕ) {r : Bool} → Amounting body 6 s → w ≡ weighed_core (amounts_from body 6) → r ≡ (average_cap category * s below w)
    → core_too_long category (amounts_from body 6) ≡ r
unfolding core_too_long
average-tested category a m e = ap₂ (λ (x y : ℕ). average_cap category * x below y) (sym a.total) (sym m) ∙ sym e

pub returns-in_err-category : goal.returns-in_err-category
unfolding decode_deposit ◌>>=◌ checked_as
returns-in_err-category c = rw (handed _ c.from_residual.ensures.1, c.args.body.known.first, bad as_it_is c.in_err-category.ensures)

pub returns-in_err-total : goal.returns-in_err-total
unfolding decode_deposit ◌>>=◌ checked_as
returns-in_err-total c = rw (handed _ c.from_residual-in_err-total.ensures.1, c.args.body.known.first, value c.in_ok-category.ensures, bad thousands c.in_err-total.ensures)

pub returns-in_err-core : goal.returns-in_err-core
unfolding decode_deposit ◌>>=◌ checked_as
returns-in_err-core c =
    rw (handed _ c.from_residual-in_err-core.ensures.1, c.args.body.known.first, value c.in_ok-category.ensures, amount-value c.in_ok-total.ensures, bad total c.in_err-core.ensures)

pub above_cap-requires : goal.above_cap-requires
above_cap-requires c =
    let limit = known_of (amount-known {bytes = 82} c.args.body.bytes.now 2 (omega arith)) c.in_ok-total.total.0 (amount-value c.in_ok-total.ensures) in
    (limit.to, omega (arith, (core (goal.at.above_cap-requires c).In_ok-core).small))

pub returns-then-above_cap : goal.returns-then-above_cap
unfolding decode_deposit unless ◌>>=◌ ◌>>◌ checked_as
returns-then-above_cap c =
    let a = core (goal.at.returns-then-above_cap c).In_ok-core in
    rw (
      c.record_fault.ensures,
      c.args.body.known.first,
      value c.in_ok-category.ensures,
      amount-value c.in_ok-total.ensures,
      a.list,
      cap-tested _ c.in_ok-total.total.0 a c.above_cap.ensures,
      c.if-above_cap.true,
    )

pub too_long-requires : goal.too_long-requires
too_long-requires c = omega (arith, (core (goal.at.too_long-requires c).In_ok-core).small)

pub returns-then-too_long : goal.returns-then-too_long
unfolding decode_deposit unless ◌>>=◌ ◌>>◌ checked_as
returns-then-too_long c =
    let a = core (goal.at.returns-then-too_long c).In_ok-core in
    rw (
      c.record_fault-then-too_long.ensures,
      c.args.body.known.first,
      value c.in_ok-category.ensures,
      amount-value c.in_ok-total.ensures,
      a.list,
      cap-tested _ c.in_ok-total.total.0 a c.above_cap.ensures,
      c.if-above_cap.false,
      average-tested _ a c.weighed_core.ensures c.too_long.ensures,
      c.if-too_long.true,
    )

pub returns : goal.returns
unfolding decode_deposit unless ◌>>=◌ ◌>>◌ checked_as
returns c =
    let a = core (goal.at.returns c).In_ok-core in
    rw (
      c.args.body.known.first,
      value c.in_ok-category.ensures,
      amount-value c.in_ok-total.ensures,
      a.list,
      cap-tested _ c.in_ok-total.total.0 a c.above_cap.ensures,
      c.if-above_cap.false,
      average-tested _ a c.weighed_core.ensures c.too_long.ensures,
      c.if-too_long.false,
    )
