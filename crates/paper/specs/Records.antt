-- Records: one byte of kind, then a body whose length the kind fixes.
use Rattle.std.specs.Prelude.{ℕ, Bool, true, false, ◌||◌, List, [], ◌∷◌, ℤ, get_or}
use Rattle.laws.specs.Tests.{◌is◌}
use Rattle.paper.specs.Ladder.{Term}
use Rattle.paper.specs.Curve.{Curve}

-- currency is a byte 1 to this. What depends on the number takes it as its first argument, `top` (currencies are 1 to top), and is used at this one
abbrev pub currencies : ℕ
currencies = 32

-- the kinds: body bytes of 1, 2, .. in turn
unfoldable pub kinds : List ℕ
kinds = 9 ∷ 13 ∷ 13 ∷ 82 ∷ 155 ∷ 79 ∷ 26 ∷ 83 ∷ 20 ∷ 81 ∷ []

abbrev pub kind_count : ℕ
kind_count = 10

-- 0 where there is no such kind
unfoldable pub body_length : ℕ → ℕ
body_length kind = get_or (0 ∷ kinds) kind 0

-- the kinds that are curves; all others are positions
unfoldable pub curve_kind : ℕ → Bool
curve_kind kind = kind is 8 || kind is 10

-- kinds 1 to 6 and 9: what has flows. Lists of amounts are by bucket
pub data Flows : Type 0 where
  single : (side : ℕ) → (term : Term) → (amount : ℕ) → Flows
  coupons : (side period count coupon principal : ℕ) → Flows
  floating : (side : ℕ) → (reset : Term) → (principal coupon : ℕ) → Flows
  deposit : (category total : ℕ) → (core : List ℕ) → Flows
  loan : (share : ℕ) → (principals interests : List ℕ) → Flows
  term_deposit : (share : ℕ) → (amounts : List ℕ) → Flows
  floating_spread : (side : ℕ) → (reset : Term) → (principal coupon period count spread : ℕ) → Flows

-- of a currency: flows (kinds 1 to 6 and 9), an option add-on (7), a curve (8 and 10). All but a curve are positions
pub data Record : Type 0 where
  flows : (currency : ℕ) → Flows → Record
  option : (currency side : ℕ) → (values : List ℤ) → Record
  curve : (currency : ℕ) → Curve → Record

unfoldable pub currency_of : Record → ℕ
currency_of (flows c f) = c
currency_of (option c side values) = c
currency_of (curve c z) = c

unfoldable pub is_curve : Record → Bool
is_curve (flows c f) = false
is_curve (option c side values) = false
is_curve (curve c z) = true
