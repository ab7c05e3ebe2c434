-- The records before this place have been counted.
use native.Mathlib.Omega.{arith}
use Prim.Native.Nat.{◌+◌}
use mathlib.Core.Path.{◌≡◌, refl, sym, ap}
use Rattle.paper.specs.Records.{body_length}
use Rattle.paper.specs.Book.{next_at}
use Rattle.tally.proofs.Progress.{counts-long, counts-small, begun, goes_on, all-counted}
use Rattle.tally.proofs.tally.Goals as goal

pub loop-kind-init : goal.loop-kind-init
loop-kind-init c = (refl, begun _ _ c.requires.counts_value)

pub count_record-requires : goal.count_record-requires
count_record-requires c =
    let loop = c.loop-kind in
    let book = c.args.book.now in
    let p = loop.invariant.1 in
    let inside = c.in-Some.ensures.lookup.3.0 in
    rw p.counted (counts-long book p.passed, counts-small book p.passed (omega (arith, p.few, inside)))

pub loop-kind-preserved : goal.loop-kind-preserved
unfolding next_at
loop-kind-preserved c =
    let loop = c.loop-kind in
    let step = c.count_record.ensures in
    let stands = c.in-Some.ensures.lookup.3 in
    let next : loop.at + (1 + c.body_length.result) ≡ next_at c.args.book.now loop.at = omega (arith, c.body_length.ensures.0, ap body_length (stands.1 0)) in (
      omega arith,
      goes_on _ _ _ _ loop.invariant.1 _ _ stands.0 next (λ ps e. step c.args.book.now ps loop.at (sym (stands.1 0)) (sym c.currency_after.ensures) e),
    )

pub returns : goal.returns
returns c = let w = all-counted _ _ _ _ c.loop-kind.invariant.1 c.in_default.ensures.lookup.3 in record { value = w.0; counts_after = w.1 }
