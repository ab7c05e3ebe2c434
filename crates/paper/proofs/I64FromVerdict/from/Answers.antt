-- The number that the compiler gives each verdict is the paper's.
use Rattle.std.specs.Prelude.{◌≡◌, ◌+ℤ◌, pos, refl}
use Rattle.std.specs.Int.{w64}
use Rattle.std.proofs.Common.{to_z, of_z}
use denote.Enum.Declared.{tag_of}
use Rattle.paper.specs.contracts.Verdict.{the_type}
use Rattle.paper.specs.declared.Verdict.{Verdict}
use Rattle.paper.specs.declared.Verdict.TheVariants.{Over, Within, Close}
use Rattle.paper.specs.Verdict.{verdict_number}
use Rattle.paper.proofs.I64FromVerdict.from.Goals as goal

pub numbered : (v : Verdict) → to_z w64 (of_z w64 (to_z w64 (tag_of the_type v) +ℤ pos 1)) ≡ pos (verdict_number v)
unfolding verdict_number
numbered Over = refl
numbered Within = refl
numbered Close = refl

pub returns : goal.returns
returns c = numbered c.args.verdict
