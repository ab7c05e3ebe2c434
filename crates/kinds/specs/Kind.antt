-- The number of each kind, and the kind of each number.
use Rattle.std.specs.Prelude.{ℕ, ◌-◌, true, [], ◌∷◌, ◌≡◌, get_or, Result, MatchResult}
use Rattle.paper.specs.declared.Refusal.{Refusal}
use Rattle.paper.specs.declared.Refusal.TheVariants.{UnknownKind}
use Rattle.paper.specs.TurnedDown.{unknown_kind}
use Rattle.kinds.specs.declared.kind.Kind.{Kind}
use Rattle.kinds.specs.declared.kind.Kind.TheVariants.{Single, Coupons, Floating, Deposit, Loan, TermDeposit, OptionAddOn, Curve, FloatingSpread, ListedCurve}

abbrev pub kind_number : Kind → ℕ
kind_number Single = 1
kind_number Coupons = 2
kind_number Floating = 3
kind_number Deposit = 4
kind_number Loan = 5
kind_number TermDeposit = 6
kind_number OptionAddOn = 7
kind_number Curve = 8
kind_number FloatingSpread = 9
kind_number ListedCurve = 10

-- what a byte names: the kind with this number, or none
abbrev pub Names : ℕ → Result Kind Refusal → Type 0
Names byte r = MatchResult r (λ kind. kind_number kind ≡ byte) (λ cause. (cause ≡ UnknownKind) × (unknown_kind byte ≡ true))

-- and the kind of a known kind's number; of another number, the last
unfoldable pub kind_of : ℕ → Kind
kind_of number = get_or (Single ∷ Coupons ∷ Floating ∷ Deposit ∷ Loan ∷ TermDeposit ∷ OptionAddOn ∷ Curve ∷ FloatingSpread ∷ []) (number - 1) ListedCurve
