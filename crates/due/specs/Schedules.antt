-- Coupons at regular periods after a start, and one amount due at a term.
use Rattle.std.specs.Prelude.{ℕ, suc, ◌+◌, ◌*◌, ◌≤◌, List, [], ◌∷◌, if◌then◌else◌}
use Rattle.laws.specs.Tests.{◌is◌}
use Rattle.paper.specs.Scales.{billion}
use Rattle.paper.specs.Ladder.{Term}
use Rattle.paper.specs.Flow.{due, coupons_due}
use Rattle.due.specs.declared.schedule.Schedule.{Schedule}

abbrev pub start_of : Schedule → Term
start_of s = record { months = s.months; days = s.days }

-- what bucket k + 1 sees of the coupons and of the amount
abbrev pub scheduled : Schedule → Term → ℕ → ℕ → ℕ
scheduled s term amount k = coupons_due (start_of s) s.period s.count s.coupon.0 k + due term amount k

-- what was decoded: a period of at most a year, no coupon past month 600
pub record Regular (s : Schedule) : Type 0 where
  pub some : 1 ≤ s.period
  pub year : s.period ≤ 12
  pub last : s.months + s.period * s.count ≤ 600
  pub small : s.coupon.0 ≤ billion

-- every end but the first is a whole month: days past a month act there as a month more
unfoldable pub month_seen : Term → ℕ
month_seen t = if t.days is 0 then t.months else suc t.months

-- the months by which a bucket ends, after those of the bucket before; no coupon is seen past 601
unfoldable pub month_ends : List ℕ
month_ends = 0 ∷ 1 ∷ 3 ∷ 6 ∷ 9 ∷ 12 ∷ 18 ∷ 24 ∷ 36 ∷ 48 ∷ 60 ∷ 72 ∷ 84 ∷ 96 ∷ 108 ∷ 120 ∷ 180 ∷ 240 ∷ 601 ∷ []
