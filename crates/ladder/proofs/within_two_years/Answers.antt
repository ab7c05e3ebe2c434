-- `within_two_years`: each arm is the months from one end's to the next, and the ends around them are found by computing.
use mathlib.Core.Path.{refl}
use native.Mathlib.Omega.{arith}
use Rattle.laws.specs.Tests.{all}
use Rattle.paper.specs.Ladder.{upper_ends}
use Rattle.ladder.proofs.Ends.{by_end}
use Rattle.ladder.proofs.within_two_years.Goals as goal

pub returns-then-months-lt1 : goal.returns-then-months-lt1
unfolding upper_ends all
returns-then-months-lt1 c = let w = by_end 0 0 _ refl (omega arith) (omega arith) c.by_end.ensures in record { value = w.0; lower_bound = w.1 }

pub returns-else-months-lt1 : goal.returns-else-months-lt1
unfolding upper_ends all
returns-else-months-lt1 c = let w = by_end 1 1 _ refl (omega arith) (omega arith) c.by_end-else-months-lt1.ensures in record { value = w.0; lower_bound = w.1 }

pub returns-in-2-to-3 : goal.returns-in-2-to-3
unfolding upper_ends all
returns-in-2-to-3 c = let w = by_end 2 2 _ refl (omega arith) (omega arith) c.by_end-in-2-to-3.ensures in record { value = w.0; lower_bound = w.1 }

pub returns-in-4-to-6 : goal.returns-in-4-to-6
unfolding upper_ends all
returns-in-4-to-6 c = let w = by_end 3 4 _ refl (omega arith) (omega arith) c.by_end-in-4-to-6.ensures in record { value = w.0; lower_bound = w.1 }

pub returns-in-7-to-9 : goal.returns-in-7-to-9
unfolding upper_ends all
returns-in-7-to-9 c = let w = by_end 4 7 _ refl (omega arith) (omega arith) c.by_end-in-7-to-9.ensures in record { value = w.0; lower_bound = w.1 }

pub returns-in-10-to-12 : goal.returns-in-10-to-12
unfolding upper_ends all
returns-in-10-to-12 c = let w = by_end 5 10 _ refl (omega arith) (omega arith) c.by_end-in-10-to-12.ensures in record { value = w.0; lower_bound = w.1 }

pub returns-in-13-to-18 : goal.returns-in-13-to-18
unfolding upper_ends all
returns-in-13-to-18 c = let w = by_end 6 13 _ refl (omega arith) (omega arith) c.by_end-in-13-to-18.ensures in record { value = w.0; lower_bound = w.1 }

pub returns-in_default : goal.returns-in_default
unfolding upper_ends all
returns-in_default c = let w = by_end 7 19 _ refl (omega arith) (omega arith) c.by_end-in_default.ensures in record { value = w.0; lower_bound = w.1 }
