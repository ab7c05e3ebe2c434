-- The number that the compiler gives each cause is the paper's.
use Rattle.std.specs.Prelude.{◌≡◌, ◌+◌, refl}
use denote.Enum.Declared.{tag_of}
use Rattle.paper.specs.contracts.Refusal.{the_type}
use Rattle.paper.specs.declared.Refusal.{Refusal}
use Rattle.paper.specs.declared.Refusal.TheVariants.{UnknownKind, CutShort, BadCurrency, BadSide, BadTerm, TooLarge, BadShare, BadCategory, CoreAboveCap, CoreTooLong, InterestAlone, SecondCurve, OutOfRange, OverLimit, NoCurve, BadCapital, BookTooLong, RoomTooSmall, UnknownEdition, CodeNotListed}
use Rattle.paper.specs.Refusals.{number_of}
use Rattle.paper.proofs.U32FromRefusal.from.Goals as goal

pub numbered : (cause : Refusal) → tag_of the_type cause + 1 ≡ number_of cause
unfolding number_of
numbered UnknownKind = refl
numbered CutShort = refl
numbered BadCurrency = refl
numbered BadSide = refl
numbered BadTerm = refl
numbered TooLarge = refl
numbered BadShare = refl
numbered BadCategory = refl
numbered CoreAboveCap = refl
numbered CoreTooLong = refl
numbered InterestAlone = refl
numbered SecondCurve = refl
numbered OutOfRange = refl
numbered OverLimit = refl
numbered NoCurve = refl
numbered BadCapital = refl
numbered BookTooLong = refl
numbered RoomTooSmall = refl
numbered UnknownEdition = refl
numbered CodeNotListed = refl

pub returns : goal.returns
returns c = numbered c.args.cause
