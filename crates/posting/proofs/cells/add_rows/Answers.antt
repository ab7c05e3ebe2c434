-- The scenarios passed have their rows; the cells of the others are as they were.
use Prim.Native.Nat.{ℕ, ◌+◌, ◌*◌, ◌-◌, ◌/◌, ◌%◌, ◌≤◌, ◌<◌}
use mathlib.Core.List.{List}
use mathlib.Core.Path.{◌≡◌, ap, ap₂, ◌∙◌}
use native.Mathlib.Omega.{arith}
use lib.IntN.{pos, +ℤ_idr}
use lib.ListN.{length, get_or}
use Rattle.laws.specs.Lists.{section}
use Rattle.laws.proofs.Sections.{length-section, section-at, section-all}
use Rattle.paper.specs.Flow.{sided}
use Rattle.posting.specs.Parts.{row_flow, AtMost, trillion}
use Rattle.posting.proofs.Loops.{joining-none, joining-done}
use Rattle.posting.proofs.Sides.{row_fits, row-added}
use Rattle.posting.proofs.cells.add_rows.Goals as goal

-- the row that a scenario has
module _ (rows which : List ℕ) (i : ℕ) where
  abbrev first : ℕ
  first = 19 * get_or which i 0

  abbrev own : List ℕ
  own = section first (first + 19 - first) rows

  own-long : first + 19 ≤ length rows → length own ≡ 19
  own-long within = let count : first + 19 - first ≡ 19 = omega arith in rw count (length-section first 19 rows within)

  own-small : AtMost trillion rows → AtMost trillion own
  own-small small = section-all (λ n. n ≤ trillion) 0 rows (omega arith) small first (first + 19 - first)

  own-flow : (k : ℕ) → k < 19 → get_or own k 0 ≡ row_flow rows which (19 * i + k)
  own-flow k l =
      let scenario : i ≡ (19 * i + k) / 19 = omega arith in
      let bucket : k ≡ (19 * i + k) % 19 = omega arith in
      section-at first (first + 19 - first) rows k 0 (omega arith) ∙ ap₂ (λ (n j : ℕ). get_or rows (19 * get_or which n 0 + j) 0) scenario bucket

pub loop-i-init : goal.loop-i-init
loop-i-init c = joining-none +ℤ_idr _ _

pub sided_row-flows-requires : goal.sided_row-flows-requires
sided_row-flows-requires c =
    let i = c.loop-i.i in record { row_len = own-long c.args.rows.now c.args.which.now i (c.requires.by_index i (omega arith)); at_most = own-small c.args.rows.now c.args.which.now i c.requires.at_most }

pub add_cells-requires : goal.add_cells-requires
add_cells-requires c =
    let at = c.loop-i in
    let row = own c.args.rows.now c.args.which.now at.i in
    let small = own-small c.args.rows.now c.args.which.now at.i c.requires.at_most in
    let signed = c.sided_row-flows.ensures in
    let count : 19 * at.i + 19 - 19 * at.i ≡ 19 = omega arith in
    let w = (row_fits c.args.side row signed at.i (omega (arith, c.requires.section_len)) at.invariant c.requires.fact small) in record { flows_len = rw count w.0; fact = rw count w.1.0; fact_2 = w.1.1 }

pub loop-i-preserved : goal.loop-i-preserved
loop-i-preserved c =
    let at = c.loop-i in
    let row = own c.args.rows.now c.args.which.now at.i in
    let signed = c.sided_row-flows.ensures in
    let count : 19 * at.i + 19 - 19 * at.i ≡ 19 = omega arith in
    let next = row-added c.args.side row signed at.i (omega (arith, c.requires.section_len)) at.invariant (rw count at c.add_cells.ensures)
    (λ k l. ap (λ (n : ℕ). sided c.args.side (pos n)) (own-flow c.args.rows.now c.args.which.now at.i k l)) in
    rw count next

pub returns : goal.returns
returns c =
    joining-done +ℤ_idr c.loop-i.invariant (omega (arith, c.requires.section_len))
