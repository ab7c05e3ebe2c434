-- What `widen` answers, way out by way out.
use Prim.Native.Nat.{ℕ, ◌*◌, ◌-◌, ◌≤◌}
use mathlib.Core.Bool.{Bool, true, false, not, true≢false}
use mathlib.Core.List.{List, ◌++◌, append_assoc}
use mathlib.Core.Path.{◌≡◌, sym, ap, ◌∙◌}
use native.Mathlib.Omega.{arith}
use borrow.Author.Tests.{eq-eqb, ne_eqb, eqb-true, le-ltb, ltb-false, not-false}
use lib.IntN.{ℤ, pos}
use lib.ListN.{length, take, drop, replicate, length-append, length-replicate, length-drop}
use lib.Seq.{length-take-le, take_all}
use Rattle.std.specs.Prelude.{Ok, Err}
use Rattle.laws.specs.Tests.{◌is◌, ◌below◌}
use Rattle.laws.specs.Lists.{section, splice}
use Rattle.laws.proofs.Tests.{or-false}
use Rattle.laws.proofs.Lists.{tabulate_from-length}
use Rattle.laws.proofs.Sections.{length-section, splice-three}
use Rattle.paper.specs.declared.Refusal.TheVariants.{RoomTooSmall}
use Rattle.paper.specs.Refusals.{◌>>◌, unless, answer_of}
use Rattle.paper.specs.Records.{currencies}
use Rattle.paper.specs.Ledger.{Totals, totals, cells, figures}
use Rattle.paper.specs.TurnedDown.{room_too_small}
use Rattle.paper.specs.Verdict.{changes_of, report_from, report_of}
use Rattle.paper.specs.Book.{report_after}
use Rattle.paper.specs.Stored.{stored_currencies, widened, cannot_widen, widening, report_widened}
use Rattle.paper.proofs.WiderReport.{stored-accepted, stored-widened}
use Rattle.stored.specs.Stored.{told, Widens, AsFresh}

-- ---- 18

-- the list is as long as a stored report, and the room as a report
pub widens : (numbers room : ℕ) → cannot_widen stored_currencies currencies numbers room ≡ false → (numbers ≡ figures stored_currencies) × (figures currencies ≤ room)
unfolding cannot_widen
widens numbers room e =
    let both = or-false (not (numbers is figures stored_currencies)) (room below figures currencies) e in
    (eqb-true numbers (figures stored_currencies) (not-false _ both.0), ltb-false room (figures currencies) both.1)

pub other-length : (numbers room : ℕ) → (numbers ≡ figures stored_currencies → ⊥) → not (numbers is figures stored_currencies) ≡ cannot_widen stored_currencies currencies numbers room
unfolding cannot_widen
other-length numbers room other = rw (ne_eqb numbers (figures stored_currencies) other)

pub by-the-room : (numbers room : ℕ) → numbers ≡ figures stored_currencies → (room below figures currencies) ≡ cannot_widen stored_currencies currencies numbers room
unfolding cannot_widen
by-the-room numbers room e = rw (eq-eqb numbers (figures stored_currencies) e)

pub can-widen : (numbers room : ℕ) → numbers ≡ figures stored_currencies → figures currencies ≤ room → cannot_widen stored_currencies currencies numbers room ≡ false
can-widen numbers room e l = sym (by-the-room numbers room e) ∙ le-ltb room (figures currencies) l

-- ---- the three parts of the room

pub parts-widened : (stored room : List ℤ) {first second third : List ℤ} → length stored ≡ figures stored_currencies → length room ≡ figures currencies
    → first ≡ section 0 (6 * stored_currencies) stored
    → second ≡ replicate (length (section (6 * stored_currencies) (6 * (currencies - stored_currencies)) (first ++ drop (6 * stored_currencies) room))) (pos 0) → third ≡ section (6 * stored_currencies) 10 stored
    → splice (6 * currencies) 10 (splice (6 * stored_currencies) (6 * (currencies - stored_currencies)) (first ++ drop (6 * stored_currencies) room) second) third ≡ widened stored_currencies currencies stored
unfolding widened
parts-widened stored room {first} s r e f g =
    let own = take (6 * stored_currencies) stored in
    let own-long : length first ≡ 6 * stored_currencies = ap length e ∙ length-take-le (6 * stored_currencies) stored (omega arith) in
    let n = length-section (6 * stored_currencies) (6 * (currencies - stored_currencies)) (first ++ drop (6 * stored_currencies) room)
    (omega (arith, length-append first (drop (6 * stored_currencies) room), length-drop (6 * stored_currencies) room)) in
    let ten = drop (6 * stored_currencies) stored in
    let last : take 10 ten ≡ ten = take_all 10 ten (omega (arith, length-drop (6 * stored_currencies) stored)) in
    rw (f, n, e, g, last)
    (splice-three room own (replicate (6 * (currencies - stored_currencies)) (pos 0)) ten (6 * stored_currencies) (6 * (currencies - stored_currencies)) 10 r
    (length-take-le (6 * stored_currencies) stored (omega arith)) (length-replicate (6 * (currencies - stored_currencies)) (pos 0))
    ∙ append_assoc own (replicate (6 * (currencies - stored_currencies)) (pos 0)) ten)

-- ---- the ways out

report-long : (t : Totals) (T : ℕ) → length (report_of stored_currencies t T) ≡ figures stored_currencies
unfolding report_of report_from changes_of
report-long t T = simp (length-append, tabulate_from-length)

pub widen-refused : (stored report : List ℤ) → cannot_widen stored_currencies currencies (length stored) (length report) ≡ true
    → Widens stored report (Err (record { cause = RoomTooSmall; place = 0 })) report × AsFresh stored report report
unfolding told answer_of widening report_widened ◌>>◌ unless
widen-refused stored report e = (
  record { says = rw e; report-is = rw e },
  record {
    holds = λ book T kept o same room.
        let long : length stored ≡ figures stored_currencies = ap length same ∙ report-long (totals kept) T in
        let z : ◌≡◌ {A = Bool} true false = sym e ∙ can-widen (length stored) (length report) long room in
        absurd (true≢false z);
  },
)

pub widen-written : (stored report : List ℤ) {report' : List ℤ} → cannot_widen stored_currencies currencies (length stored) (length report) ≡ false
    → report' ≡ widened stored_currencies currencies stored ++ drop (figures currencies) report → Widens stored report (Ok tt) report' × AsFresh stored report report'
unfolding told answer_of widening report_widened report_after room_too_small ◌>>◌ unless
widen-written stored report e r = (
  record { says = rw e; report-is = r ∙ rw e },
  record {
    holds = λ book T kept o same room.
        let fits : room_too_small currencies (length report) (cells currencies) ≡ false = rw (le-ltb (length report) (figures currencies) room) in
        let again = stored-accepted stored_currencies currencies (omega arith) book T (figures stored_currencies) (cells stored_currencies) kept o (length report) (cells currencies) fits in
        let wide : widened stored_currencies currencies stored ≡ report_of currencies (totals kept) T =
        ap (widened stored_currencies currencies) same ∙ stored-widened stored_currencies currencies (omega arith) book T (figures stored_currencies) (cells stored_currencies) kept o in
        rw again (r ∙ ap (λ (l : List ℤ). l ++ drop (figures currencies) report) wide);
  },
)
