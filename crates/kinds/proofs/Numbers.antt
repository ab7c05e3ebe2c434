-- The kinds by number: each has its own, and there are no others.
use Prim.Native.Nat.{ℕ, ◌+◌}
use mathlib.Core.Bool.{Bool, true, false}
use mathlib.Core.Path.{◌≡◌, refl}
use native.Mathlib.Omega.{arith}
use borrow.Author.Tests.{eqb-true, eqb-false, ne_eqb}
use denote.Enum.Declared.{tag_of}
use Rattle.laws.specs.Tests.{◌is◌, all}
use Rattle.laws.proofs.Tests.{all-at}
use Rattle.paper.specs.Records.{kinds, kind_count, body_length, curve_kind}
use Rattle.paper.specs.TurnedDown.{unknown_kind}
use Rattle.paper.proofs.KindTable.{known-kind}
use Rattle.kinds.specs.contracts.kind.Kind.{the_type}
use Rattle.kinds.specs.declared.kind.Kind.{Kind}
use Rattle.kinds.specs.declared.kind.Kind.TheVariants.{Single, Coupons, Floating, Deposit, Loan, TermDeposit, OptionAddOn, Curve, FloatingSpread, ListedCurve}
use Rattle.kinds.specs.Kind.{kind_number, kind_of}

pub number-known : (kind : Kind) → unknown_kind (kind_number kind) ≡ false
unfolding unknown_kind body_length kinds
number-known Single = refl
number-known Coupons = refl
number-known Floating = refl
number-known Deposit = refl
number-known Loan = refl
number-known TermDeposit = refl
number-known OptionAddOn = refl
number-known Curve = refl
number-known FloatingSpread = refl
number-known ListedCurve = refl

pub kind-of-number : (kind : Kind) → kind_of (kind_number kind) ≡ kind
unfolding kind_of
kind-of-number Single = refl
kind-of-number Coupons = refl
kind-of-number Floating = refl
kind-of-number Deposit = refl
kind-of-number Loan = refl
kind-of-number TermDeposit = refl
kind-of-number OptionAddOn = refl
kind-of-number Curve = refl
kind-of-number FloatingSpread = refl
kind-of-number ListedCurve = refl

numbered-back : all (λ n. kind_number (kind_of n) is n) 1 kind_count ≡ true
unfolding all kind_of
numbered-back = refl

pub number-of-kind : (number : ℕ) → unknown_kind number ≡ false → kind_number (kind_of number) ≡ number
unfolding unknown_kind
number-of-kind number known =
    let l = known-kind number (eqb-false (body_length number) 0 known) in
    eqb-true _ number (all-at (λ n. kind_number (kind_of n) is n) 1 kind_count numbered-back number l.0 (omega (arith, l.1)))

-- no such kind
pub unknown_length : (number : ℕ) → unknown_kind number ≡ true → body_length number ≡ 0
unfolding unknown_kind
unknown_length number unknown = eqb-true (body_length number) 0 unknown

pub unknown_curve : (number : ℕ) → unknown_kind number ≡ true → curve_kind number ≡ false
unfolding unknown_kind body_length kinds curve_kind
unknown_curve number unknown = rw (other 8 refl, other 10 refl) refl
  where
    other : (n : ℕ) → (body_length n is 0) ≡ false → (number is n) ≡ false
    other n known = ne_eqb number n (λ e. let z : ◌≡◌ {A = Bool} true false = cc in let y : ◌≡◌ {A = ℕ} 0 1 = cc in omega arith)

-- the number that the compiler gives
pub tag-number : (kind : Kind) → tag_of the_type kind + 1 ≡ kind_number kind
tag-number Single = refl
tag-number Coupons = refl
tag-number Floating = refl
tag-number Deposit = refl
tag-number Loan = refl
tag-number TermDeposit = refl
tag-number OptionAddOn = refl
tag-number Curve = refl
tag-number FloatingSpread = refl
tag-number ListedCurve = refl
