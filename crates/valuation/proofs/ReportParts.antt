-- Where the report's parts stand in its room: the changes, the sums, the last four numbers.
use Prim.Native.Nat.{ℕ, suc, ◌+◌, ◌*◌, ◌-◌, ◌/◌, ◌%◌}
use mathlib.Core.List.{List, ◌++◌}
use mathlib.Core.Path.{◌≡◌, sym, ap}
use native.Mathlib.Omega.{arith}
use lib.IntN.{ℤ, pos}
use lib.ListN.{length, get_or, drop}
use Rattle.laws.specs.Lists.{splice, tabulate_from}
use Rattle.laws.proofs.Lists.{tabulate_from-length, tabulate-is}
use Rattle.laws.proofs.Sections.{splice-three}
use Rattle.paper.specs.Records.{currencies}
use Rattle.paper.specs.Flow.{shocked}
use Rattle.paper.specs.Ledger.{figures}
use Rattle.paper.specs.Verdict.{scenario_sum, measure, worst, changes_of, report_from}
use Rattle.arrays.specs.Rooms.{listed}
use Rattle.valuation.specs.Closing.{closing}

-- where the sums start
abbrev n : ℕ
n = shocked * currencies

-- the list of the changes that a list holds is that list
changes-listed : (list : List ℤ) → length list ≡ n → changes_of currencies (listed list) ≡ list
unfolding changes_of listed
changes-listed list e =
    sym (tabulate-is (pos 0) list _ n e (λ j l.
    let place : j ≡ shocked * (suc (j / shocked) - 1) + (suc (j % shocked) - 1) = omega arith in
    ap (λ (m : ℕ). get_or list m (pos 0)) place))

pub report-written : (room changes : List ℤ) (u T m w : ℕ) {first second third : List ℤ} → length room ≡ figures currencies → length changes ≡ n
    → first ≡ changes → second ≡ tabulate_from (λ i. pos (scenario_sum currencies (listed changes) i)) 1 shocked
    → third ≡ closing m w u T → m ≡ measure currencies (listed changes) → w ≡ worst currencies (listed changes)
    → splice (n + shocked) 4 (splice n shocked (first ++ drop n room) second) third ≡ report_from currencies (listed changes) u T
unfolding report_from
report-written room changes u T m w r c e f g h i =
    rw (e, f, g, h, i, changes-listed changes c) (splice-three room changes _ _ n shocked 4 r c (tabulate_from-length (λ i. pos (scenario_sum currencies (listed changes) i)) 1 shocked))
