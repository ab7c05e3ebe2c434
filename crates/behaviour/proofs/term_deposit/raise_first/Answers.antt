-- The rates passed have their bucket 1 raised; the others are as they were.
use Prim.Native.Nat.{ℕ, ◌+◌, ◌*◌, ◌/◌, ◌%◌, ◌<◌, ◌≤◌}
use mathlib.Core.List.{List}
use mathlib.Core.Path.{◌≡◌}
use native.Mathlib.Nat.{add-zero}
use native.Mathlib.Omega.{arith}
use lib.ListN.{get_or}
use borrow.Author.Tests.{eq-eqb, ne_eqb}
use Rattle.posting.proofs.Loops.{joining-none, joining-rest, joining-long, joining-more, joining-done}
use Rattle.behaviour.proofs.term_deposit.raise_first.Invariants.{first}
use Rattle.behaviour.proofs.term_deposit.raise_first.Goals as goal

first-here : (early : List ℕ) (i : ℕ) → get_or early i 0 ≡ first early (19 * i)
first-here early i =
    let here : 19 * i % 19 ≡ 0 = omega arith in
    let row : 19 * i / 19 ≡ i = omega arith in
    rw (eq-eqb (19 * i % 19) 0 here, row)

first-elsewhere : (early : List ℕ) (i j : ℕ) → 19 * i ≤ j → j < 19 * (i + 1) → (j ≡ 19 * i → ⊥) → first early j ≡ 0
first-elsewhere early i j from to other =
    let past : j % 19 ≡ 0 → ⊥ = λ z. other (omega arith) in
    rw (ne_eqb (j % 19) 0 past)

pub overflow_add-rows : goal.overflow_add-rows
overflow_add-rows c =
    let same = joining-rest add-zero c.loop-i.invariant (19 * c.loop-i.i) (omega arith) (omega arith) in
    record { fits = omega (arith, same, c.requires.at_most (19 * c.loop-i.i), c.requires.at_most_2 c.loop-i.i) }

pub loop-i-preserved : goal.loop-i-preserved
loop-i-preserved c =
    joining-more add-zero c.loop-i.invariant (19 * (c.loop-i.i + 1)) (19 * c.loop-i.i) (first-here c.args.early.now c.loop-i.i) (omega arith) (omega arith) (omega arith)
    (first-elsewhere c.args.early.now c.loop-i.i)

pub loop-i-init : goal.loop-i-init
loop-i-init c = joining-none add-zero _ _

pub bounds-rows-at : goal.bounds-rows-at
bounds-rows-at c = omega (arith, joining-long add-zero c.loop-i.invariant)

pub bounds-rows-at-in-loop-i : goal.bounds-rows-at-in-loop-i
bounds-rows-at-in-loop-i c = omega (arith, joining-long add-zero c.loop-i.invariant)

pub returns : goal.returns
returns c = joining-done add-zero c.loop-i.invariant (omega arith)
