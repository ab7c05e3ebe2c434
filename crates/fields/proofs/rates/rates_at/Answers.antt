-- `rates_at` meets its contract: every rate so far is in range, and the room holds them.
use mathlib.Core.Path.{◌≡◌, ◌∙◌}
use native.Mathlib.Omega.{arith}
use Rattle.std.proofs.lemmas.List.{set-get_or}
use Rattle.fields.specs.Answers.{millionths}
use Rattle.fields.proofs.Reading.{handed, bad, rate-value}
use Rattle.fields.proofs.RateLaws.{filled_none, filled_more, filled-stops, filled-ends}
use Rattle.fields.proofs.rates.rates_at.Goals as goal

pub loop-k-init : goal.loop-k-init
loop-k-init c = filled_none _ _ _

pub returns-in_err-millionths : goal.returns-in_err-millionths
returns-in_err-millionths c =
    let w = filled-stops _ _ (omega arith) c.loop-k.invariant (bad millionths c.in_err-millionths.ensures) in
    record { value = handed _ c.from_residual.ensures.1 ∙ w.0; rates_after = set-get_or _ _ _ ∙ w.1 }

pub loop-k-preserved : goal.loop-k-preserved
loop-k-preserved c = filled_more _ _ _ _ _ _ (omega arith) (omega arith) c.loop-k.invariant (rate-value c.in_ok-millionths.ensures)

pub returns : goal.returns
returns c =
    let e : c.loop-k.k ≡ 19 = omega arith in
    let w = filled-ends _ _ (rw e at c.loop-k.invariant) in record { value = w.0; rates_after = w.1 }
