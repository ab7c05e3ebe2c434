-- The report program: `irreport` reads T in 8 bytes, unsigned and big-endian, then the book, and prints lines of text, as bytes.
use Rattle.std.specs.Prelude.{ℕ, zero, suc, ◌+◌, ◌*◌, ◌/◌, ◌%◌, Bool, List, [], ◌∷◌, ◌++◌, ℤ, pos, negsuc, length, get_or, drop, if◌then◌else◌}
use Rattle.laws.specs.Tests.{◌is◌, ◌below◌}
use Rattle.laws.specs.Lists.{tabulate_from}
use Rattle.paper.specs.declared.Refusal.TheVariants.{BadCapital, BookTooLong}
use Rattle.paper.specs.Refusals.{number_of, Checked, accepted, refused}
use Rattle.paper.specs.Records.{Record}
use Rattle.paper.specs.Ledger.{totals, curved, cells, figures}
use Rattle.paper.specs.Fields.{four}
use Rattle.paper.specs.Verdict.{report_of, change_at, sum_at, measure_at, worst_at, tolerance_at, verdict_at}
use Rattle.paper.specs.Book.{outcome}

-- ---- what it reads: above 65,536 bytes gives 17, below 8 bytes 16

abbrev pub capital_in : List ℕ → ℕ
capital_in input = four input 0 * 4294967296 + four input 4

unfoldable pub program_outcome : ℕ → List ℕ → Checked (List Record)
program_outcome top input =
    if 65536 below length input then refused BookTooLong 0 else
    if length input below 8 then refused BadCapital 0 else
    outcome top (drop 8 input) (capital_in input) (figures top) (cells top)

-- ---- what it prints: items after single spaces, a newline after every line

-- a number in decimal, in at most so many digits
unfoldable pub digits_of : ℕ → ℕ → List ℕ
digits_of zero n = []
digits_of (suc most) n = if n below 10 then (48 + n) ∷ [] else (digits_of most (n / 10) ++ ((48 + n % 10) ∷ []))

unfoldable pub decimal : ℕ → List ℕ
decimal n = digits_of 20 n

-- a minus sign goes before the text of a number below zero
unfoldable pub with_sign : (ℕ → List ℕ) → ℤ → List ℕ
with_sign text (pos n) = text n
with_sign text (negsuc n) = 45 ∷ text (suc n)

abbrev pub signed_decimal : ℤ → List ℕ
signed_decimal = with_sign decimal

unfoldable pub items : List ℤ → List ℕ
items [] = []
items (z ∷ zs) = 32 ∷ signed_decimal z ++ items zs

-- a line starts with its letter
unfoldable pub line : ℕ → List ℤ → List ℕ
line letter numbers = letter ∷ items numbers ++ (10 ∷ [])

-- C with currency and six changes
abbrev pub changes_line : List ℤ → ℕ → List ℕ
changes_line report c = line 67 (pos c ∷ tabulate_from (λ i. get_or report (change_at c i) (pos 0)) 1 6)

-- for each currency with a curve, in order
unfoldable pub curved_lines : (ℕ → Bool) → (ℕ → List ℕ) → ℕ → List ℕ
curved_lines curved text zero = []
curved_lines curved text (suc n) = curved_lines curved text n ++ (if curved (suc n) then text (suc n) else [])

-- OVER, WITHIN or CLOSE
unfoldable pub verdict_word : ℤ → List ℕ
verdict_word (pos n) =
    if n is 1 then 79 ∷ 86 ∷ 69 ∷ 82 ∷ [] else
    if n is 2 then 87 ∷ 73 ∷ 84 ∷ 72 ∷ 73 ∷ 78 ∷ [] else
    67 ∷ 76 ∷ 79 ∷ 83 ∷ 69 ∷ []
verdict_word (negsuc n) = 67 ∷ 76 ∷ 79 ∷ 83 ∷ 69 ∷ []

-- the C lines; S with six sums; M with measure, worst, total tolerance; V with the verdict
unfoldable pub report_text : ℕ → (ℕ → Bool) → List ℤ → List ℕ
report_text top curved report =
    curved_lines curved (changes_line report) top
    ++ line 83 (tabulate_from (λ i. get_or report (sum_at top i) (pos 0)) 1 6)
    ++ line 77 (get_or report (measure_at top) (pos 0) ∷ get_or report (worst_at top) (pos 0) ∷ get_or report (tolerance_at top) (pos 0) ∷ [])
    ++ (86 ∷ 32 ∷ verdict_word (get_or report (verdict_at top) (pos 0)) ++ (10 ∷ []))

-- or one line, R with number and place
unfoldable pub refusal_text : ℕ → ℕ → List ℕ
refusal_text number place = line 82 (pos number ∷ pos place ∷ [])

unfoldable pub text_of : ℕ → Checked (List Record) → ℕ → List ℕ
text_of top (accepted kept) T = report_text top (curved kept) (report_of top (totals kept) T)
text_of top (refused r place) T = refusal_text (number_of r) place

unfoldable pub printed : ℕ → List ℕ → List ℕ
printed top input = text_of top (program_outcome top input) (capital_in input)
