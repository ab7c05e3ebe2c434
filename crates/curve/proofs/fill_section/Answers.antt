-- `fill_section` meets its contract: the scenarios so far are written.
use Prim.Native.Nat.{◌+◌, ◌*◌, ◌-◌}
use mathlib.Core.Path.{◌≡◌}
use native.Mathlib.Omega.{arith}
use lib.IntN.{pos}
use Rattle.laws.proofs.Filling.{rows_none, rows_next, rows_all}
use Rattle.paper.specs.Ladder.{buckets}
use Rattle.paper.specs.Ledger.{section_size}
use Rattle.curve.specs.Shocked.{shocked_section}
use Rattle.curve.proofs.fill_section.Goals as goal

pub loop-scenario-init : goal.loop-scenario-init
loop-scenario-init c = rows_none (pos 0) _ buckets section_size _ c.requires.section_len

pub loop-scenario-preserved : goal.loop-scenario-preserved
loop-scenario-preserved c =
    let at = c.loop-scenario in
    let width : buckets * at.scenario + buckets - buckets * at.scenario ≡ buckets = omega arith in
    rw width (rows_next (pos 0) _ buckets section_size at.scenario at.section _ (omega arith) c.fill_scenario.ensures at.invariant)

pub returns : goal.returns
unfolding shocked_section
returns c = let at = c.loop-scenario in rows_all (pos 0) _ buckets section_size at.scenario at.section (omega arith) at.invariant
