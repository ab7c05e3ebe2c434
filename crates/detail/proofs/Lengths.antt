-- How many bytes the lines are at most.
use Prim.Native.Nat.{ℕ, zero, suc, ◌+◌, ◌*◌, ◌≤◌}
use mathlib.Core.List.{List, [], ◌∷◌, ◌++◌}
use native.Mathlib.Omega.{arith}
use lib.IntN.{ℤ, pos}
use lib.ListN.{length, length-append}
use Rattle.laws.specs.Lists.{tabulate, tabulate_from}
use Rattle.laws.proofs.Lists.{tabulate_from-length}
use Rattle.paper.specs.Ladder.{buckets}
use Rattle.paper.specs.Records.{kind_count}
use Rattle.paper.specs.Flow.{scenarios, shocked}
use Rattle.paper.specs.Ledger.{Totals}
use Rattle.paper.specs.Change.{tolerance}
use Rattle.paper.specs.Program.{line, curved_lines}
use Rattle.paper.specs.Detail.{pointed_line, limit, headroom, share, tolerances_line, rates_line, flows_line, scenario_lines, add_ons_line, kinds_line, currency_text, closing_text}
use Rattle.arrays.specs.Masks.{curved_by}
use Rattle.arrays.specs.Rooms.{totals_by}
use Rattle.text.proofs.Items.{line-length}
use Rattle.text.proofs.CurvedLines.{lines-length}
use Rattle.text.proofs.Decimals.{pointed-line-length}
use Rattle.detail.specs.Behind.{count_by, currency_by, longest_currency, longest_closing}

-- a line of one number
pub natural-length : (letter n : ℕ) → length (line letter (pos n ∷ [])) ≤ 24
natural-length letter n = line-length letter (pos n ∷ [])

-- a line with a head
headed-length : (letter : ℕ) (head : ℤ) (f : ℕ → ℤ) (a n : ℕ) → length (line letter (head ∷ tabulate_from f a n)) ≤ 22 * n + 24
headed-length letter head f a n = omega (arith, line-length letter (head ∷ tabulate_from f a n), tabulate_from-length f a n)

-- rates or flows of a scenario
row-length : (letter : ℕ) (head next : ℤ) (f : ℕ → ℤ) → length (line letter (head ∷ next ∷ tabulate f buckets)) ≤ 464
row-length letter head next f = omega (arith, line-length letter (head ∷ next ∷ tabulate f buckets), tabulate_from-length f 0 buckets)

module _ (rate cell : ℕ → ℕ → ℕ → ℤ) (c : ℕ) where
  rates-length : (i : ℕ) → length (rates_line rate c i) ≤ 464
  rates-length i = row-length 90 (pos c) (pos i) (rate c i)

  flows-length : (i : ℕ) → length (flows_line cell c i) ≤ 464
  flows-length i = row-length 70 (pos c) (pos i) (cell c i)

  pub scenarios-length : (n : ℕ) → length (scenario_lines rate cell c n) ≤ 928 * n
  unfolding scenario_lines
  scenarios-length zero = omega arith
  scenarios-length (suc n) =
      omega (
        arith,
        scenarios-length n,
        length-append (scenario_lines rate cell c n) (rates_line rate c n ++ flows_line cell c n),
        length-append (rates_line rate c n) (flows_line cell c n),
        rates-length n,
        flows-length n,
      )

module _ (t : Totals) (c : ℕ) where
  pub tolerances-length : length (tolerances_line t c) ≤ 156
  tolerances-length = headed-length 85 (pos c) (λ i. pos (tolerance t c i)) 1 shocked

  add_ons-length : length (add_ons_line t.add_on c) ≤ 156
  add_ons-length = headed-length 65 (pos c) (t.add_on c) 1 shocked

  currency-length : (count : ℕ → ℕ → ℤ) → length (currency_text t count c) ≤ longest_currency
  unfolding currency_text
  currency-length count =
      let lines = scenario_lines t.rate t.cell c scenarios in
      let last = add_ons_line t.add_on c ++ kinds_line count c in
      omega (
        arith,
        length-append (tolerances_line t c) (lines ++ last),
        length-append lines last,
        length-append (add_ons_line t.add_on c) (kinds_line count c),
        tolerances-length,
        scenarios-length t.rate t.cell c scenarios,
        add_ons-length,
        headed-length 75 (pos c) (count c) 1 kind_count,
      )

pub currencies-length : (ledger rates add_ons counts : List ℤ) (curved n : ℕ) → length (curved_lines (curved_by curved) (currency_by ledger rates add_ons counts) n) ≤ longest_currency * n
currencies-length ledger rates add_ons counts curved n =
    lines-length (curved_by curved) (currency_by ledger rates add_ons counts) longest_currency (λ c. currency-length (totals_by ledger add_ons rates) c (count_by counts)) n

pub closing-length : (n m T : ℕ) → length (closing_text n m T) ≤ longest_closing
unfolding closing_text
closing-length n m T =
    let share-line = pointed_line 80 (pos (share m T)) in
    let headroom-line = pointed_line 72 (headroom m T) in
    let limit-line = pointed_line 76 (limit T) in
    omega (
      arith,
      length-append (line 78 (pos n ∷ [])) (line 84 (pos T ∷ []) ++ (limit-line ++ (headroom-line ++ share-line))),
      length-append (line 84 (pos T ∷ [])) (limit-line ++ (headroom-line ++ share-line)),
      length-append limit-line (headroom-line ++ share-line),
      length-append headroom-line share-line,
      natural-length 78 n,
      natural-length 84 T,
      pointed-line-length 76 (limit T),
      pointed-line-length 72 (headroom m T),
      pointed-line-length 80 (pos (share m T)),
    )
