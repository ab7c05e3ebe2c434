-- `within_ten_years`: as within two years.
use mathlib.Core.Path.{refl}
use native.Mathlib.Omega.{arith}
use Rattle.laws.specs.Tests.{all}
use Rattle.paper.specs.Ladder.{upper_ends}
use Rattle.ladder.proofs.Ends.{by_end}
use Rattle.ladder.proofs.within_ten_years.Goals as goal

pub returns-in-0-to-36 : goal.returns-in-0-to-36
unfolding upper_ends all
returns-in-0-to-36 c = let w = by_end 8 25 _ refl (omega arith) (omega arith) c.by_end.ensures in record { value = w.0; lower_bound = w.1 }

pub returns-in-37-to-48 : goal.returns-in-37-to-48
unfolding upper_ends all
returns-in-37-to-48 c = let w = by_end 9 37 _ refl (omega arith) (omega arith) c.by_end-in-37-to-48.ensures in record { value = w.0; lower_bound = w.1 }

pub returns-in-49-to-60 : goal.returns-in-49-to-60
unfolding upper_ends all
returns-in-49-to-60 c = let w = by_end 10 49 _ refl (omega arith) (omega arith) c.by_end-in-49-to-60.ensures in record { value = w.0; lower_bound = w.1 }

pub returns-in-61-to-72 : goal.returns-in-61-to-72
unfolding upper_ends all
returns-in-61-to-72 c = let w = by_end 11 61 _ refl (omega arith) (omega arith) c.by_end-in-61-to-72.ensures in record { value = w.0; lower_bound = w.1 }

pub returns-in-73-to-84 : goal.returns-in-73-to-84
unfolding upper_ends all
returns-in-73-to-84 c = let w = by_end 12 73 _ refl (omega arith) (omega arith) c.by_end-in-73-to-84.ensures in record { value = w.0; lower_bound = w.1 }

pub returns-in-85-to-96 : goal.returns-in-85-to-96
unfolding upper_ends all
returns-in-85-to-96 c = let w = by_end 13 85 _ refl (omega arith) (omega arith) c.by_end-in-85-to-96.ensures in record { value = w.0; lower_bound = w.1 }

pub returns-in-97-to-108 : goal.returns-in-97-to-108
unfolding upper_ends all
returns-in-97-to-108 c = let w = by_end 14 97 _ refl (omega arith) (omega arith) c.by_end-in-97-to-108.ensures in record { value = w.0; lower_bound = w.1 }

pub returns-in_default : goal.returns-in_default
unfolding upper_ends all
returns-in_default c = let w = by_end 15 109 _ refl (omega arith) (omega arith) c.by_end-in_default.ensures in record { value = w.0; lower_bound = w.1 }
