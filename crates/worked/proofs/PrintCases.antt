-- The worked example's lines, byte for byte, some of those behind them, and a refusal's line.
use mathlib.Core.Path.{◌≡◌, refl}
use mathlib.Core.List.{[], ◌∷◌, ◌++◌}
use Rattle.laws.specs.Tests.{◌is◌}
use Rattle.laws.specs.Lists.{tabulate_from}
use Rattle.laws.specs.Sums.{total}
use Rattle.laws.specs.Nearest.{rounded_up}
use lib.IntN.{pos}
use Rattle.paper.specs.Records.{currencies, kinds, body_length}
use Rattle.paper.specs.Book.{next_at}
use Rattle.paper.specs.Detail.{places_from, places, is_of, among, taken, headroom, share, pointed, pointed_line, kinds_line, closing_text}
use Rattle.paper.specs.Program.{digits_of, decimal, with_sign, items, line, curved_lines, verdict_word, report_text, refusal_text}
use Rattle.worked.proofs.Example.{example, changes, stated}

-- C 1 632121 -1718282 0 0 0 0 / S 632121 0 0 0 0 0 / M 632121 1 2 / V OVER
pub example-lines : report_text currencies (λ c. c is 1) (stated 1)
    ≡ (67 ∷ 32 ∷ 49 ∷ 32 ∷ 54 ∷ 51 ∷ 50 ∷ 49 ∷ 50 ∷ 49 ∷ 32 ∷ 45 ∷ 49 ∷ 55 ∷ 49 ∷ 56 ∷ 50 ∷ 56 ∷ 50 ∷ 32 ∷ 48 ∷ 32 ∷ 48 ∷ 32 ∷ 48 ∷ 32 ∷ 48 ∷ 10 ∷ [])
    ++ (83 ∷ 32 ∷ 54 ∷ 51 ∷ 50 ∷ 49 ∷ 50 ∷ 49 ∷ 32 ∷ 48 ∷ 32 ∷ 48 ∷ 32 ∷ 48 ∷ 32 ∷ 48 ∷ 32 ∷ 48 ∷ 10 ∷ [])
    ++ (77 ∷ 32 ∷ 54 ∷ 51 ∷ 50 ∷ 49 ∷ 50 ∷ 49 ∷ 32 ∷ 49 ∷ 32 ∷ 50 ∷ 10 ∷ [])
    ++ (86 ∷ 32 ∷ 79 ∷ 86 ∷ 69 ∷ 82 ∷ 10 ∷ [])
unfolding stated changes report_text curved_lines verdict_word line items with_sign decimal digits_of tabulate_from
example-lines = refl

-- R 16 0
pub refusal-line : refusal_text 16 0 ≡ 82 ∷ 32 ∷ 49 ∷ 54 ∷ 32 ∷ 48 ∷ 10 ∷ []
unfolding refusal_text line items with_sign decimal digits_of
refusal-line = refl

-- ---- behind the report

-- K 1 1 0 0 0 0 0 0 1 0 0
pub example-kinds : kinds_line (λ c kind. pos (taken example c kind)) 1 ≡ 75 ∷ 32 ∷ 49 ∷ 32 ∷ 49 ∷ 32 ∷ 48 ∷ 32 ∷ 48 ∷ 32 ∷ 48 ∷ 32 ∷ 48 ∷ 32 ∷ 48 ∷ 32 ∷ 48 ∷ 32 ∷ 49 ∷ 32 ∷ 48 ∷ 32 ∷ 48 ∷ 10 ∷ []
unfolding example places places_from next_at body_length kinds among is_of total line items with_sign decimal digits_of tabulate_from
example-kinds = refl

-- N 2 / T 4214126 / L 632118.90 / H -2.10 / P 15.01
pub example-closing : closing_text 2 632121 4214126
    ≡ (78 ∷ 32 ∷ 50 ∷ 10 ∷ [])
    ++ (84 ∷ 32 ∷ 52 ∷ 50 ∷ 49 ∷ 52 ∷ 49 ∷ 50 ∷ 54 ∷ 10 ∷ [])
    ++ (76 ∷ 32 ∷ 54 ∷ 51 ∷ 50 ∷ 49 ∷ 49 ∷ 56 ∷ 46 ∷ 57 ∷ 48 ∷ 10 ∷ [])
    ++ (72 ∷ 32 ∷ 45 ∷ 50 ∷ 46 ∷ 49 ∷ 48 ∷ 10 ∷ [])
    ++ (80 ∷ 32 ∷ 49 ∷ 53 ∷ 46 ∷ 48 ∷ 49 ∷ 10 ∷ [])
unfolding closing_text headroom share rounded_up pointed_line pointed line items with_sign decimal digits_of
example-closing = refl
