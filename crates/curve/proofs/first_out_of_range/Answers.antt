-- `first_out_of_range` meets its contract: the buckets are gone through from the first.
use Prim.Native.Nat.{ℕ, zero-le, ◌≤◌, ◌<◌}
use mathlib.Core.Bool.{Bool, true, false}
use mathlib.Core.Path.{◌≡◌, ◌∙◌}
use native.Mathlib.Omega.{arith}
use Rattle.std.proofs.Common.{zero-add}
use borrow.Author.Rules.{rules}
use borrow.Author.Tests.{tests, lt-ltb, le-ltb}
use Rattle.std.specs.Prelude.{Option, Some, None, MatchOption}
use Rattle.std.specs.Bool.{then_some}
use Rattle.std.proofs.lemmas.Iterator.{first_from_Range}
use Rattle.laws.specs.Tests.{◌below◌, first}
use Rattle.laws.proofs.Tests.{first-is, none_first}
use Rattle.paper.specs.TurnedDown.{bad_shocked}
use Rattle.curve.specs.Shocked.{curve_of}
use Rattle.curve.proofs.first_out_of_range.Goals as goal

-- what a search over n numbers from 0 answers
found : (bad : ℕ → Bool) (n : ℕ) (r : Option ℕ)
    → MatchOption r ((k : ℕ) → 0 ≤ k → k < n → bad k ≡ false)
    (λ i. (0 ≤ i) × (i < n) × (bad i ≡ true) × ((k : ℕ) → 0 ≤ k → k < i → bad k ≡ false))
    → r ≡ then_some (first bad 0 n below n) (first bad 0 n)
found bad n None h =
    let past : first bad 0 n ≡ n = none_first bad 0 n (λ k l m. h k l (omega arith)) ∙ zero-add n in rw (past, le-ltb n n (omega arith))
found bad n (Some i) h =
    let here : first bad 0 n ≡ i = first-is bad 0 n i zero-le (omega (arith, h.1)) h.2 h.3 in rw (here, lt-ltb i n h.1)

pub returns : goal.returns
returns c =
    found (bad_shocked (curve_of c.args.rates.now c.args.shocks)) 19 _
    (first_from_Range _ _ _ c.find.result
    (λ k. bad_shocked (curve_of c.args.rates.now c.args.shocks) k ≡ true)
    (λ k. bad_shocked (curve_of c.args.rates.now c.args.shocks) k ≡ false)
    c.find.ensures.ran (λ x q k. search (rules, tests)) (λ x q k. search (rules, tests)))
