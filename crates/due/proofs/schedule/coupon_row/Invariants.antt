-- What the loop of `coupon_row` keeps.
use Prim.Native.Nat.{ℕ, suc, ◌*◌, ◌-◌}
use mathlib.Core.List.{List, ◌∷◌}
use mathlib.Core.Path.{◌≡◌}
use lib.ListN.{length, get_or}
use Rattle.laws.proofs.Filling.{Filled}
use Rattle.due.proofs.schedule.coupon_row.Given as goal

-- what is due by the ends of the first k buckets
abbrev pub by_end : List ℕ → ℕ → ℕ
by_end by k = get_or (0 ∷ by) k 0

abbrev pub invariant-loop-k : goal.invariant-loop-k
invariant-loop-k l = (length l.row ≡ 19) × Filled 0 l.k (λ j. (by_end l.by (suc j) - by_end l.by j) * l.each) l.row
