-- Wrong programs that the contract of `widen` rules out: what they would answer or leave is not permitted.
use Prim.Native.Nat.{ℕ}
use mathlib.Core.List.{List}
use mathlib.Core.Path.{◌≡◌, ap}
use native.Mathlib.Omega.{arith}
use lib.IntN.{ℤ, pos}
use lib.ListN.{get_or, replicate}
use Rattle.std.specs.Prelude.{Result, Ok, Err}
use Rattle.paper.specs.declared.Fault.{Fault}
use Rattle.paper.specs.Refusals.{◌>>◌, unless, answer_of}
use Rattle.paper.specs.Records.{currencies}
use Rattle.paper.specs.Ledger.{figures}
use Rattle.paper.specs.Verdict.{change_at, verdict_at}
use Rattle.paper.specs.Stored.{stored_currencies, widened, cannot_widen, widening, report_widened}
use Rattle.stored.specs.Stored.{told, Widens}

-- a list of ones, in a room of just the report
abbrev ones : List ℤ
ones = replicate (figures stored_currencies) (pos 1)

abbrev room : ℤ → List ℤ
room z = replicate (figures currencies) z

-- one that refuses everything
pub not-all-refused : {report' : List ℤ} (f : Fault) → Widens ones (room (pos 0)) (Err f) report' → ⊥
unfolding told answer_of widening cannot_widen ◌>>◌ unless
not-all-refused f p = let said = p.says in let z : ◌≡◌ {A = ℕ} 0 1 = cc in omega arith

-- one that leaves the last ten where they stood, and one that writes nothing: what stands last is the stored verdict
pub last-stays-last : {answer : Result (Unit {0}) Fault} {report' : List ℤ} → Widens ones (room (pos 0)) answer report' → get_or report' (verdict_at currencies) (pos 0) ≡ pos 1
unfolding widening report_widened widened cannot_widen ◌>>◌ unless
last-stays-last p = ap (λ (l : List ℤ). get_or l (verdict_at currencies) (pos 0)) p.report-is

-- one that leaves what stood in the room between them
pub others-are-nil : {report' : List ℤ} → Widens ones (room (pos 7)) (Ok tt) report' → get_or report' (change_at currencies 1) (pos 0) ≡ pos 0
unfolding widening report_widened widened cannot_widen ◌>>◌ unless
others-are-nil p = ap (λ (l : List ℤ). get_or l (change_at currencies 1) (pos 0)) p.report-is
