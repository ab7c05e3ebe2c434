-- No two causes have one number, and so no two faults one number and one place.
use Prim.Native.Nat.{ℕ}
use mathlib.Core.List.{List, [], ◌∷◌}
use mathlib.Core.Path.{◌≡◌, refl, sym, ap, ap₂, ◌∙◌}
use lib.ListN.{get_or}
use Rattle.paper.specs.declared.Fault.{Fault}
use Rattle.paper.specs.declared.Refusal.{Refusal}
use Rattle.paper.specs.declared.Refusal.TheVariants.{UnknownKind, CutShort, BadCurrency, BadSide, BadTerm, TooLarge, BadShare, BadCategory, CoreAboveCap, CoreTooLong, InterestAlone, SecondCurve, OutOfRange, OverLimit, NoCurve, BadCapital, BookTooLong, RoomTooSmall, UnknownEdition, CodeNotListed}
use Rattle.paper.specs.Refusals.{number_of}

-- the causes in the order of their numbers, after one for 0
causes : List Refusal
causes =
    UnknownKind ∷ UnknownKind ∷ CutShort ∷ BadCurrency ∷ BadSide ∷ BadTerm ∷ TooLarge ∷ BadShare ∷ BadCategory ∷ CoreAboveCap ∷ CoreTooLong
    ∷ InterestAlone ∷ SecondCurve ∷ OutOfRange ∷ OverLimit ∷ NoCurve ∷ BadCapital ∷ BookTooLong ∷ RoomTooSmall ∷ UnknownEdition ∷ CodeNotListed ∷ []

cause : ℕ → Refusal
cause n = get_or causes n UnknownKind

cause-of : (r : Refusal) → cause (number_of r) ≡ r
unfolding cause causes number_of
cause-of UnknownKind = refl
cause-of CutShort = refl
cause-of BadCurrency = refl
cause-of BadSide = refl
cause-of BadTerm = refl
cause-of TooLarge = refl
cause-of BadShare = refl
cause-of BadCategory = refl
cause-of CoreAboveCap = refl
cause-of CoreTooLong = refl
cause-of InterestAlone = refl
cause-of SecondCurve = refl
cause-of OutOfRange = refl
cause-of OverLimit = refl
cause-of NoCurve = refl
cause-of BadCapital = refl
cause-of BookTooLong = refl
cause-of RoomTooSmall = refl
cause-of UnknownEdition = refl
cause-of CodeNotListed = refl

pub one-refusal : (a b : Refusal) → number_of a ≡ number_of b → a ≡ b
one-refusal a b e = sym (cause-of a) ∙ ap cause e ∙ cause-of b

pub one-fault : (r s : Fault) → number_of r.cause ≡ number_of s.cause → r.place ≡ s.place → r ≡ s
one-fault r s e there = ap₂ (λ (c : Refusal) (n : ℕ). record { cause = c; place = n }) (one-refusal r.cause s.cause e) there
