-- Reports that were stored when currencies were 1 to 8 (02, request 7): they were made by the paper's own rules, with 8 for `top`.
use Rattle.std.specs.Prelude.{ℕ, ◌*◌, ◌-◌, Bool, not, ◌||◌, List, ◌++◌, ℤ, pos, length, take, drop, replicate}
use Rattle.laws.specs.Tests.{◌is◌, ◌below◌}
use Rattle.laws.specs.Sums.{some}
use Rattle.paper.specs.declared.Refusal.TheVariants.{RoomTooSmall}
use Rattle.paper.specs.Refusals.{Checked, accepted, refused, ◌>>◌, refuse_if}
use Rattle.paper.specs.Records.{Record, currency_of}
use Rattle.paper.specs.Ledger.{figures}

abbrev pub stored_currencies : ℕ
stored_currencies = 8

-- a report over few currencies as one over more: its changes, zeros for those of the other currencies, its last ten
unfoldable pub widened : (few top : ℕ) → List ℤ → List ℤ
widened few top stored = take (6 * few) stored ++ (replicate (6 * (top - few)) (pos 0) ++ drop (6 * few) stored)

-- 18: a list of another length than a report over few has, or too small a room
unfoldable pub cannot_widen : (few top numbers room : ℕ) → Bool
cannot_widen few top numbers room = not (numbers is figures few) || room below figures top

unfoldable pub widening : (few top : ℕ) → List ℤ → (room : ℕ) → Checked (List ℤ)
widening few top stored room = do
  refuse_if (cannot_widen few top (length stored) room) RoomTooSmall 0
  accepted (widened few top stored)

-- what the room holds at exit; numbers beyond the report are untouched
unfoldable pub report_widened : ℕ → Checked (List ℤ) → List ℤ → List ℤ
report_widened top (accepted wide) report = wide ++ drop (figures top) report
report_widened top (refused r place) report = report

-- some record's currency is above so many
unfoldable pub above : ℕ → List Record → Bool
above few kept = some (λ r. few below currency_of r) kept
