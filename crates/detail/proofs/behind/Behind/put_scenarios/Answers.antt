-- The scenarios before this one have their lines.
use Prim.Native.Nat.{ℕ, ◌+◌, ◌*◌, ◌-◌}
use mathlib.Core.List.{◌∷◌}
use mathlib.Core.Path.{◌≡◌}
use native.Mathlib.Numerals.{add-one}
use native.Mathlib.Omega.{arith}
use lib.IntN.{pos}
use Rattle.std.proofs.lemmas.List.{map-id}
use Rattle.laws.specs.Lists.{section}
use Rattle.laws.proofs.Sections.{length-section}
use Rattle.paper.specs.Ladder.{buckets}
use Rattle.paper.specs.Flow.{scenarios}
use Rattle.paper.specs.Ledger.{section_size}
use Rattle.paper.specs.Detail.{scenario_lines}
use Rattle.arrays.specs.Rooms.{cell_by}
use Rattle.text.proofs.Pages.{adds_none, adds_then}
use Rattle.text.proofs.Items.{line-length}
use Rattle.detail.proofs.Lines.{row_of}
use Rattle.detail.proofs.Lengths.{scenarios-length}
use Rattle.detail.proofs.behind.Behind.put_scenarios.Goals as goal

row_count : (c i : ℕ) → section_size * (c - 1) + buckets * i + buckets - (section_size * (c - 1) + buckets * i) ≡ buckets
row_count c i = omega arith

pub loop-scenario-init : goal.loop-scenario-init
unfolding scenario_lines
loop-scenario-init c = adds_none _

pub line-requires : goal.line-requires
line-requires c =
    let behind = c.args.self.now in
    let loop = c.loop-scenario in
    let from = section_size * (c.args.currency - 1) + buckets * loop.scenario in
    rw (row_count c.args.currency loop.scenario) (omega (
      arith,
      scenarios-length (cell_by behind.rates.now) (cell_by behind.ledger.now) c.args.currency loop.scenario,
      length-section from buckets behind.rates.now (omega (arith, behind.lengths.rates-long)),
    ))

pub line-requires-in-loop-scenario : goal.line-requires-in-loop-scenario
line-requires-in-loop-scenario c =
    let behind = c.args.self.now in
    let loop = c.loop-scenario in
    let currency = c.args.currency in
    let from = section_size * (currency - 1) + buckets * loop.scenario in
    let zeros = rw (c.from.ensures, map-id, row_count currency loop.scenario) at c.line.ensures in
    rw (row_count currency loop.scenario) (omega (
      arith,
      scenarios-length (cell_by behind.rates.now) (cell_by behind.ledger.now) currency loop.scenario,
      zeros.wrote.next-is,
      zeros.same_length,
      line-length 90 (pos currency ∷ pos loop.scenario ∷ section from buckets behind.rates.now),
      length-section from buckets behind.rates.now (omega (arith, behind.lengths.rates-long)),
      length-section from buckets behind.ledger.now (omega (arith, behind.lengths.ledger-long)),
    ))

pub loop-scenario-preserved : goal.loop-scenario-preserved
unfolding scenario_lines
loop-scenario-preserved c =
    let loop = c.loop-scenario in
    let rates = c.args.self.now.rates.now in
    let ledger = c.args.self.now.ledger.now in
    let currency = c.args.currency in
    let zeros = rw (c.from.ensures, map-id, row_count currency loop.scenario, row_of rates currency loop.scenario (omega (arith, c.args.self.now.lengths.rates-long))) at c.line.ensures in
    let flows = rw (c.from.ensures, map-id, row_count currency loop.scenario, row_of ledger currency loop.scenario (omega (arith, c.args.self.now.lengths.ledger-long))) at c.line-in-loop-scenario.ensures in
    rw add-one (adds_then loop.invariant (adds_then zeros flows))

pub returns : goal.returns
returns c =
    let loop = c.loop-scenario in
    let all : loop.scenario ≡ scenarios = omega arith in
    rw all at loop.invariant
