-- Published shock sizes (02, request 5): an edition lists, for each currency code, the parallel, short and long shock in basis points.
use Rattle.std.specs.Prelude.{ℕ, ◌+◌, ◌*◌, ◌<◌, ◌≤◌, List, [], ◌∷◌, ◌≡◌, length, get_or}
use Rattle.laws.specs.Tests.{◌is◌, first}
use Rattle.paper.specs.declared.Shocks.{Shocks}
use Rattle.paper.specs.Letters.{A, B, C, D, E, F, G, H, I, J, K, L, M, N, P, R, S, T, U, W, X, Y, Z}

-- a code is three bytes, read as one number
abbrev pub code_of : ℕ → ℕ → ℕ → ℕ
code_of a b c = a * 65536 + b * 256 + c

pub record Entry : Type 0 where
  pub code : ℕ
  pub shocks : Shocks

-- three letters; parallel, short, long
abbrev entry : (a b c parallel short long : ℕ) → Entry
entry a b c parallel short long = record { code = code_of a b c; shocks = record { parallel = parallel; short = short; long = long } }

-- edition 1, the 2016 standard: SRP31.90, table 2
unfoldable pub edition1 : List Entry
edition1 =
    entry A R S 400 500 300
    ∷ entry A U D 300 450 200
    ∷ entry B R L 400 500 300
    ∷ entry C A D 200 300 150
    ∷ entry C H F 100 150 100
    ∷ entry C N Y 250 300 150
    ∷ entry E U R 200 250 100
    ∷ entry G B P 250 300 150
    ∷ entry H K D 200 250 100
    ∷ entry I D R 400 500 300
    ∷ entry I N R 400 500 300
    ∷ entry J P Y 100 100 100
    ∷ entry K R W 300 400 200
    ∷ entry M X N 400 500 300
    ∷ entry R U B 400 500 300
    ∷ entry S A R 200 300 150
    ∷ entry S E K 200 300 150
    ∷ entry S G D 150 200 100
    ∷ entry T R Y 400 500 300
    ∷ entry U S D 200 300 150
    ∷ entry Z A R 400 500 300
    ∷ []

-- edition 2, the recalibration of July 2024 (d578). Entered from recollection, without the document in hand: to be held against the published table before anyone files
-- by it. The long shock of MXN is the least sure
unfoldable pub edition2 : List Entry
edition2 =
    entry A R S 400 500 300
    ∷ entry A U D 350 425 300
    ∷ entry B R L 400 500 300
    ∷ entry C A D 225 350 200
    ∷ entry C H F 175 250 200
    ∷ entry C N Y 225 300 150
    ∷ entry E U R 225 350 200
    ∷ entry G B P 275 425 250
    ∷ entry H K D 225 375 200
    ∷ entry I D R 400 500 300
    ∷ entry I N R 325 475 225
    ∷ entry J P Y 100 100 100
    ∷ entry K R W 225 350 225
    ∷ entry M X N 400 500 300
    ∷ entry R U B 400 500 300
    ∷ entry S A R 275 375 250
    ∷ entry S E K 275 425 200
    ∷ entry S G D 175 250 225
    ∷ entry T R Y 400 500 300
    ∷ entry U S D 200 300 225
    ∷ entry Z A R 325 500 300
    ∷ []

-- no other edition lists anything
unfoldable pub list_of : ℕ → List Entry
list_of edition = get_or ([] ∷ edition1 ∷ edition2 ∷ []) edition []

-- what is read past the end of a list
abbrev pub unlisted : Entry
unlisted = record { code = 0; shocks = record { parallel = 0; short = 0; long = 0 } }

abbrev pub code_at : List Entry → ℕ → ℕ
code_at list j = (get_or list j unlisted).code

-- where a list has a code, from 0; its end where it has not
unfoldable pub line_of : List Entry → ℕ → ℕ
line_of list code = first (λ j. code_at list j is code) 0 (length list)

unfoldable pub shocks_for : List Entry → ℕ → Shocks
shocks_for list code = (get_or list (line_of list code) unlisted).shocks

-- ---- what is claimed of each edition: theorem `editions-published`, by one computed test over both

-- 1 to 500 basis points
abbrev pub Size : ℕ → Type 0
Size shock = (1 ≤ shock) × (shock ≤ 500)

abbrev pub Sizes : Shocks → Type 0
Sizes shocks = Size shocks.parallel × Size shocks.short × Size shocks.long

pub record Published (list : List Entry) : Type 0 where
  pub sized : (j : ℕ) → j < length list → Sizes (get_or list j unlisted).shocks
  pub distinct : (i j : ℕ) → i < length list → j < length list → code_at list i ≡ code_at list j → i ≡ j
