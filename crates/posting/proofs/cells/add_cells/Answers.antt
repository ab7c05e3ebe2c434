-- Each cell passed has its own flow; the others are as they were.
use Prim.Native.Nat.{ℕ}
use mathlib.Core.List.{List}
use mathlib.Core.Path.{◌≡◌}
use native.Mathlib.Omega.{arith}
use lib.IntN.{ℤ, pos, +ℤ_idr}
use lib.ListN.{get_or}
use mir.Facts.{to_z-of_z}
use mir.Syntax.{w64}
use mir.Val.{to_z, of_z}
use borrow.Author.Rules.{rules}
use Rattle.laws.proofs.Widths.{sfits-abs}
use Rattle.posting.specs.Parts.{AtMostℤ, trillion}
use Rattle.posting.proofs.Loops.{joining-none, joining-rest, joining-next, joining-done}
use Rattle.posting.proofs.Sides.{sum_fits}
use Rattle.posting.proofs.cells.add_cells.Goals as goal

-- a flow as the machine holds it
read_back : (flows : List ℤ) (j : ℕ) → AtMostℤ trillion flows → to_z w64 (of_z w64 (get_or flows j (pos 0))) ≡ get_or flows j (pos 0)
read_back flows j small = to_z-of_z {w = w64} (sfits-abs (get_or flows j (pos 0)) (omega (arith, small j)))

pub loop-j-init : goal.loop-j-init
loop-j-init c = joining-none +ℤ_idr _ _

pub add_into-requires : goal.add_into-requires
add_into-requires c =
    let at = c.loop-j in
    let same = joining-rest +ℤ_idr at.invariant at.j (search rules) (search rules) in record {
      at_in_bounds = search rules;
      sfits = rw (read_back c.args.flows.now at.j c.requires.fact_2)
          (sum_fits (get_or at.cells at.j (pos 0)) (get_or c.args.flows.now at.j (pos 0)) (rw same (c.requires.fact at.j)) (c.requires.fact_2 at.j));
    }

pub loop-j-preserved : goal.loop-j-preserved
loop-j-preserved c =
    let at = c.loop-j in
    rw c.add_into.ensures (joining-next +ℤ_idr at.invariant (read_back c.args.flows.now at.j c.requires.fact_2) (search rules))

pub returns : goal.returns
returns c = joining-done +ℤ_idr c.loop-j.invariant (search rules)
