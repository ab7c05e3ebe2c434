-- Fields: big-endian numbers, each with the refusal that it earns. `o` is a field's first byte in the body. The place of a fault is counted
-- from the record's first byte, which is the kind: `suc o` for a field, 0 for the record as a whole.
use Rattle.std.specs.Prelude.{ℕ, zero, suc, ◌+◌, ◌*◌, Bool, List, [], ◌∷◌, ℤ, pos, ◌-ℤ◌, get_or, if◌then◌else◌}
use Rattle.laws.specs.Tests.{◌below◌}
use Rattle.paper.specs.declared.Refusal.{Refusal}
use Rattle.paper.specs.declared.Refusal.TheVariants.{BadCurrency, BadSide, BadTerm, TooLarge, BadShare, BadCategory, OutOfRange, UnknownEdition, CodeNotListed}
use Rattle.paper.specs.Refusals.{Checked, accepted, ◌>>=◌, ◌>>◌, unless, refuse_if}
use Rattle.paper.specs.declared.Shocks.{Shocks}
use Rattle.paper.specs.Published.{code_of, list_of, shocks_for}
use Rattle.paper.specs.TurnedDown.{bad_currency, bad_side, bad_months, bad_days, bad_period, bad_count, bad_amount, bad_option, bad_share, bad_category, bad_rate, bad_shock, unknown_edition, code_not_listed}

abbrev pub byte : List ℕ → ℕ → ℕ
byte body o = get_or body o 0

abbrev pub two : List ℕ → ℕ → ℕ
two body o = byte body o * 256 + byte body (o + 1)

abbrev pub three : List ℕ → ℕ → ℕ
three body o = code_of (byte body o) (byte body (o + 1)) (byte body (o + 2))

abbrev pub four : List ℕ → ℕ → ℕ
four body o = byte body o * 16777216 + byte body (o + 1) * 65536 + byte body (o + 2) * 256 + byte body (o + 3)

-- 32 bits read as signed
unfoldable pub signed : ℕ → ℤ
signed n = if n below 2147483648 then pos n else pos n -ℤ pos 4294967296

-- a field is its value, unless that is bad
unfoldable pub field : {A : Type 0} → (A → Bool) → Refusal → ℕ → A → Checked A
field bad r o x = unless (bad x) r (suc o) x

abbrev pub currency_at : ℕ → List ℕ → ℕ → Checked ℕ
currency_at top body o = field (bad_currency top) BadCurrency o (byte body o)

abbrev pub side_at : List ℕ → ℕ → Checked ℕ
side_at body o = field bad_side BadSide o (byte body o)

abbrev pub months_at : List ℕ → ℕ → Checked ℕ
months_at body o = field bad_months BadTerm o (two body o)

abbrev pub days_at : List ℕ → ℕ → Checked ℕ
days_at body o = field bad_days BadTerm o (byte body o)

abbrev pub period_at : List ℕ → ℕ → Checked ℕ
period_at body o = field bad_period BadTerm o (byte body o)

abbrev pub count_at : ℕ → ℕ → List ℕ → ℕ → Checked ℕ
count_at start period body o = field (bad_count start period) BadTerm o (two body o)

abbrev pub amount_at : List ℕ → ℕ → Checked ℕ
amount_at body o = field bad_amount TooLarge o (four body o)

abbrev pub option_at : List ℕ → ℕ → Checked ℤ
option_at body o = field bad_option TooLarge o (signed (four body o))

abbrev pub share_at : List ℕ → ℕ → Checked ℕ
share_at body o = field bad_share BadShare o (two body o)

abbrev pub category_at : List ℕ → ℕ → Checked ℕ
category_at body o = field bad_category BadCategory o (byte body o)

abbrev pub rate_at : List ℕ → ℕ → Checked ℤ
rate_at body o = field bad_rate OutOfRange o (signed (four body o))

abbrev pub shock_at : List ℕ → ℕ → Checked ℕ
shock_at body o = field bad_shock OutOfRange o (two body o)

-- an edition (1) and a code (3): the shocks that are listed. 19 and 20 are told of the record as a whole
unfoldable pub listed_at : List ℕ → ℕ → Checked Shocks
listed_at body o =
    let edition = byte body o in
    let code = three body (o + 1) in
    do
      refuse_if (unknown_edition edition) UnknownEdition 0
      refuse_if (code_not_listed edition code) CodeNotListed 0
      accepted (shocks_for (list_of edition) code)

-- n fields of four bytes each, from o on
unfoldable pub each : {A : Type 0} → (ℕ → Checked A) → ℕ → ℕ → Checked (List A)
each read zero o = accepted []
each read (suc n) o = do
  x ← read o
  xs ← each read n (o + 4)
  accepted (x ∷ xs)
