-- `bucket_of`: by the two decisions below it, the two ends after ten years, or past all ends.
use mathlib.Core.Path.{refl}
use native.Mathlib.Omega.{arith}
use Rattle.laws.specs.Tests.{all}
use Rattle.paper.specs.Ladder.{upper_ends}
use Rattle.ladder.proofs.Ends.{by_end, past-ends}
use Rattle.ladder.proofs.bucket_of.Goals as goal

pub returns-in-121-to-180 : goal.returns-in-121-to-180
unfolding upper_ends all
returns-in-121-to-180 c = let w = by_end 16 121 _ refl (omega arith) (omega arith) c.by_end.ensures in record { value = w.0; lower_bound = w.1 }

pub returns-in-181-to-240 : goal.returns-in-181-to-240
unfolding upper_ends all
returns-in-181-to-240 c = let w = by_end 17 181 _ refl (omega arith) (omega arith) c.by_end-in-181-to-240.ensures in record { value = w.0; lower_bound = w.1 }

pub returns-in_default : goal.returns-in_default
unfolding upper_ends all
returns-in_default c = let w = past-ends _ (omega arith) in record { value = w.0; lower_bound = w.1 }
