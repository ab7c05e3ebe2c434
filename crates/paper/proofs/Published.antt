-- Both editions, by one computed test: every shock lies in 1 to 500 basis points, and no two entries of an edition have one code. So a code that is listed has such shocks.
use Prim.Native.Nat.{ℕ, ◌≤◌, ◌<◌}
use mathlib.Core.Bool.{Bool, true, false, ◌&&◌}
use mathlib.Core.List.{List, [], ◌∷◌}
use mathlib.Core.Logic.{⊎_elim}
use mathlib.Core.Path.{◌≡◌, refl, sym, ap, ◌∙◌}
use native.Mathlib.Omega.{arith}
use borrow.Author.Tests.{eqb-true, leb-true, ltb-true, not-false}
use lib.ListN.{length, get_or, get_or-eq_default}
use Rattle.laws.specs.Tests.{◌is◌, ◌up_to◌, all, first}
use Rattle.laws.proofs.Tests.{lt-or-ge, and-true, all-at}
use Rattle.paper.specs.Refusals.{number_of, of_field}
use Rattle.paper.specs.declared.Shocks.{Shocks}
use Rattle.paper.specs.Published.{code_of, Entry, edition1, edition2, list_of, unlisted, code_at, line_of, shocks_for, Size, Sizes, Published}
use Rattle.paper.specs.TurnedDown.{code_not_listed}
use Rattle.paper.specs.Fields.{listed_at}
use Rattle.paper.specs.Book.{touches_nothing}
use Rattle.paper.proofs.Checks.{Checks, Inside, in_whole, known, tested}

-- ---- the test

in_size : ℕ → Bool
in_size shock = 1 up_to shock && shock up_to 500

in_sizes : Shocks → Bool
in_sizes shocks = in_size shocks.parallel && (in_size shocks.short && in_size shocks.long)

-- the entry's shocks, and that its code is nowhere before it
rightly : ℕ → ℕ → Bool
rightly edition j = in_sizes (get_or (list_of edition) j unlisted).shocks && line_of (list_of edition) (code_at (list_of edition) j) is j

-- no edition 0, then 1 and 2
each_right : all (λ edition. all (rightly edition) 0 (length (list_of edition))) 0 3 ≡ true
unfolding all rightly in_sizes in_size list_of edition1 edition2 line_of first
each_right = refl

right-at : (edition j : ℕ) → j < length (list_of edition) → rightly edition j ≡ true
unfolding list_of
right-at edition j l = ⊎_elim within (λ past. absurd (omega (arith, ap length (beyond past)))) (lt-or-ge edition 3)
  where
    within : edition < 3 → rightly edition j ≡ true
    within m = all-at (rightly edition) 0 (length (list_of edition)) (all-at (λ n. all (rightly n) 0 (length (list_of n))) 0 3 each_right edition (omega arith) m) j (omega arith) (omega arith)

    beyond : 3 ≤ edition → list_of edition ≡ []
    beyond past = get_or-eq_default ([] ∷ edition1 ∷ edition2 ∷ []) [] {n = edition} past

-- ---- what it says

size-tested : (shock : ℕ) → in_size shock ≡ true → Size shock
unfolding in_size
size-tested shock e = let both = and-true (1 up_to shock) (shock up_to 500) e in (leb-true 1 shock both.0, leb-true shock 500 both.1)

sizes-tested : (s : Shocks) → in_sizes s ≡ true → Sizes s
unfolding in_sizes
sizes-tested s e =
    let p = and-true (in_size s.parallel) (in_size s.short && in_size s.long) e in
    let q = and-true (in_size s.short) (in_size s.long) p.1 in
    (size-tested _ p.0, size-tested _ q.0, size-tested _ q.1)

module _ (edition : ℕ) where
  abbrev list : List Entry
  list = list_of edition

  both : (j : ℕ) → j < length list → (in_sizes (get_or list j unlisted).shocks ≡ true) × ((line_of list (code_at list j) is j) ≡ true)
  unfolding rightly
  both j l = and-true (in_sizes (get_or list j unlisted).shocks) (line_of list (code_at list j) is j) (right-at edition j l)

  entry-sized : (j : ℕ) → j < length list → Sizes (get_or list j unlisted).shocks
  entry-sized j l = sizes-tested _ (both j l).0

  own_line : (j : ℕ) → j < length list → line_of list (code_at list j) ≡ j
  own_line j l = eqb-true _ j (both j l).1

  pub editions-published : Published list
  editions-published = record { sized = entry-sized; distinct = λ i j l m same. sym (own_line i l) ∙ ap (line_of list) same ∙ own_line j m }

  pub listed-sized : (code : ℕ) → code_not_listed edition code ≡ false → Sizes (shocks_for list code)
  unfolding code_not_listed shocks_for
  listed-sized code e = entry-sized (line_of list code) (ltb-true _ _ (not-false _ e))

-- the shocks of a body that names an edition and a code
pub listed-known : {bytes : ℕ} (body : List ℕ) (o : ℕ) → Checks (Inside bytes) Sizes (listed_at body o)
unfolding listed_at touches_nothing number_of of_field
listed-known body o = tested _ _ _ _ (in_whole refl refl) (λ e. tested _ _ _ _ (in_whole refl refl) (λ f. known (listed-sized _ _ f)))

-- codes are compared as three bytes: two that are one number are the same bytes
pub one_code : (a b c x y z : ℕ) → (a < 256) × (b < 256) × (c < 256) → (x < 256) × (y < 256) × (z < 256) → code_of a b c ≡ code_of x y z → (a ≡ x) × (b ≡ y) × (c ≡ z)
one_code a b c x y z l m e =
    let high : a ≡ x = omega (arith, l.0, l.1, l.2, m.0, m.1, m.2, e) in
    let middle : b ≡ y = omega (arith, l.1, l.2, m.1, m.2, e, high) in
    (high, middle, omega (arith, e, high, middle))
