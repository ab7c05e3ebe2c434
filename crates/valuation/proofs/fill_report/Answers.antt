-- `fill_report` meets its contract. The invariant is `Done`: the figures of the currencies so far are in their lists. A currency without a curve
-- has nothing in it, so the zeros that stand there are its figures; so have all past the last with a curve.
use Prim.Native.Nat.{ℕ, ◌+◌, ◌-◌, ◌≤◌}
use mathlib.Core.List.{List}
use mathlib.Core.Path.{◌≡◌, sym, ◌∙◌}
use native.Mathlib.Omega.{arith}
use lib.IntN.{ℤ}
use Rattle.paper.specs.Records.{currencies}
use Rattle.paper.specs.Ledger.{Totals}
use Rattle.arrays.specs.Masks.{curved_by, last_of}
use Rattle.arrays.specs.Rooms.{totals_by}
use Rattle.arrays.proofs.Last.{last-most, past-last}
use Rattle.valuation.specs.Bounds.{Bounds}
use Rattle.valuation.proofs.Progress.{Done, done_none, done_more, done-skip, done-rest, change-figures, tolerance-figures, report-done}
use Rattle.valuation.proofs.fill_report.Goals as goal
use Rattle.valuation.proofs.fill_report.Goals.{else-has_curve, then-has_curve}

-- past the last currency with a curve
all_done : {t : Totals} (curved : ℕ) {c last : ℕ} {changes tolerances : List ℤ} → Bounds t (curved_by curved) → c ≤ last → last ≤ c → last ≡ last_of curved
    → Done t c changes tolerances → Done t currencies changes tolerances
all_done {t} curved {c} {last} b h k e d =
    let same : c ≡ last_of curved = omega arith in
    done-rest (currencies - last_of curved) (omega (arith, last-most curved))
    (λ n l o. b.nothing n (omega arith) o (past-last curved n l o))
    (rw same at d)

pub loop-c-init : goal.loop-c-init
loop-c-init c = (
  c.last_of-last.ensures,
  omega (arith, c.last_of-last.ensures, last-most c.args.curved),
  done_none (totals_by c.args.ledger.now c.args.add_ons.now c.args.rates.now),
)

pub loop-c-preserved : goal.loop-c-preserved
loop-c-preserved c =
    let d = c.loop-c.invariant.2 in
    let tested = sym c.has_curve.ensures in (
      c.loop-c.invariant.0,
      c.loop-c.invariant.1,
      elim c.if-has_curve.branch [
        | then-has_curve w ↦ done_more (omega arith) d (w.changes-is ∙ w.fill_currency.ensures.changes_after) (w.tolerances-is ∙ w.fill_currency.ensures.tolerances_after)
        | else-has_curve w ↦ rw (w.changes-is, w.tolerances-is) (done-skip (omega arith) d (c.requires.bounds.nothing (c.loop-c.c + 1) (omega arith) (omega arith) (tested ∙ w.if-has_curve.false)))
      ],
    )

pub write_report-requires-clause-figures : goal.write_report-requires-clause-figures
write_report-requires-clause-figures c =
    let curved = c.args.curved in
    let t = totals_by c.args.ledger.now c.args.add_ons.now c.args.rates.now in
    let done : Done t currencies c.loop-c.changes c.loop-c.tolerances = all_done curved c.requires.bounds (omega arith) (omega arith) c.loop-c.invariant.0 c.loop-c.invariant.2 in
    rw c.loop-c.invariant.0 (
      change-figures t _ c.requires.bounds (last_of curved) (last-most curved) (past-last curved) done,
      tolerance-figures t _ c.requires.bounds (last_of curved) (last-most curved) (past-last curved) done,
    )

pub returns : goal.returns
returns c =
    let curved = c.args.curved in
    let t = totals_by c.args.ledger.now c.args.add_ons.now c.args.rates.now in
    let done : Done t currencies c.loop-c.changes c.loop-c.tolerances = all_done curved c.requires.bounds (omega arith) (omega arith) c.loop-c.invariant.0 c.loop-c.invariant.2 in
    c.write_report.ensures ∙ report-done t _ c.requires.bounds (last_of curved) (last-most curved) (past-last curved) done c.args.tier1.0
