-- Records written out as bytes, for the worked cases.
use Prim.Native.Nat.{ℕ, zero, suc, ◌*◌, ◌-◌, ◌/◌, ◌%◌}
use mathlib.Core.List.{List, [], ◌∷◌, ◌++◌}
use lib.ListN.{replicate}

abbrev pub in2 : ℕ → List ℕ
in2 n = n / 256 ∷ n % 256 ∷ []

abbrev pub in4 : ℕ → List ℕ
in4 n = n / 16777216 ∷ n / 65536 % 256 ∷ n / 256 % 256 ∷ n % 256 ∷ []

-- so far below zero, in 32 bits
abbrev pub below4 : ℕ → List ℕ
below4 n = in4 (4294967296 - n)

-- 19 amounts: one in a bucket; one in a bucket and one in the next
abbrev pub only : ℕ → ℕ → List ℕ
only bucket amount = replicate (4 * (bucket - 1)) 0 ++ in4 amount ++ replicate (4 * (19 - bucket)) 0

abbrev pub pair : ℕ → ℕ → ℕ → List ℕ
pair bucket amount next = replicate (4 * (bucket - 1)) 0 ++ in4 amount ++ in4 next ++ replicate (4 * (18 - bucket)) 0

abbrev pub single_body : ℕ → ℕ → ℕ → ℕ → ℕ → List ℕ
single_body currency side months days amount = currency ∷ side ∷ in2 months ++ (days ∷ in4 amount)

abbrev pub coupons_body : ℕ → ℕ → ℕ → ℕ → ℕ → ℕ → List ℕ
coupons_body currency side period count coupon principal = currency ∷ side ∷ period ∷ in2 count ++ in4 coupon ++ in4 principal

abbrev pub floating_body : ℕ → ℕ → ℕ → ℕ → ℕ → ℕ → List ℕ
floating_body currency side months days principal coupon = currency ∷ side ∷ in2 months ++ (days ∷ in4 principal) ++ in4 coupon

abbrev pub floating_spread_body : ℕ → ℕ → ℕ → ℕ → ℕ → ℕ → ℕ → ℕ → ℕ → List ℕ
floating_spread_body currency side months days principal coupon period count spread =
    floating_body currency side months days principal coupon ++ (period ∷ in2 count) ++ in4 spread

abbrev pub deposit_body : ℕ → ℕ → ℕ → List ℕ → List ℕ
deposit_body currency category whole core = currency ∷ category ∷ in4 whole ++ core

abbrev pub loan_body : ℕ → ℕ → List ℕ → List ℕ → List ℕ
loan_body currency share principals interests = currency ∷ in2 share ++ principals ++ interests

abbrev pub term_deposit_body : ℕ → ℕ → List ℕ → List ℕ
term_deposit_body currency share amounts = currency ∷ in2 share ++ amounts

-- one value, in the last of the six scenarios
abbrev pub option_body : ℕ → ℕ → List ℕ → List ℕ
option_body currency side last = currency ∷ side ∷ replicate 20 0 ++ last

-- so many rates alike
unfoldable pub rates : ℕ → List ℕ → List ℕ
rates zero rate = []
rates (suc n) rate = rate ++ rates n rate

abbrev pub rates_body : ℕ → List ℕ → ℕ → ℕ → ℕ → List ℕ
rates_body currency all parallel short long = currency ∷ all ++ in2 parallel ++ in2 short ++ in2 long

-- all rates alike
abbrev pub curve_body : ℕ → List ℕ → ℕ → ℕ → ℕ → List ℕ
curve_body currency rate = rates_body currency (rates 19 rate)

-- an edition, a code and 19 rates
abbrev pub listed_body : ℕ → ℕ → List ℕ → List ℕ → List ℕ
listed_body currency edition code all = currency ∷ edition ∷ code ++ all
