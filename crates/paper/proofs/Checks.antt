-- What is known of a value that passed a chain of tests, and of the cause and the place for which it did not.
use Prim.Native.Nat.{ℕ, zero, suc, ◌+◌, ◌*◌, ◌≤◌, ◌<◌}
use mathlib.Core.Bool.{Bool, true, false, true≢false}
use mathlib.Core.List.{List, ◌∷◌}
use mathlib.Core.Path.{◌≡◌, refl, ap, subst}
use native.Mathlib.Omega.{arith}
use lib.ListN.{get_or}
use Rattle.std.specs.Prelude.{if◌then◌else◌}
use Rattle.paper.specs.declared.Refusal.{Refusal}
use Rattle.paper.specs.Refusals.{of_field, Checked, accepted, refused, ◌>>=◌, ◌>>◌, unless, refuse_if}
use Rattle.paper.specs.Fields.{field, each}
use Rattle.paper.specs.Book.{placed, touches_nothing}
use Rattle.paper.specs.Sound.{Listed}

-- P of a value that is accepted, R of the cause of a refusal and its place
pub data Checks (R : Refusal → ℕ → Type 0) {A : Type 0} (P : A → Type 0) : Checked A → Type 0 where
  known : {a : A} → P a → Checks R P (accepted a)
  gone : {q : Refusal} → {place : ℕ} → R q place → Checks R P (refused q place)

abbrev pub Anything : Refusal → ℕ → Type 0
Anything q place = Unit {0}

-- nothing is asked of the cause
abbrev pub Known : {A : Type 0} → (A → Type 0) → Checked A → Type 0
Known P = Checks Anything P

-- the cause is of a record: it clears the ledger
abbrev pub Clears : Refusal → ℕ → Type 0
Clears q place = touches_nothing q ≡ false

-- such a cause, in a record whose body has so many bytes: the place within it is in the body if a field is at fault, else the record's first byte
pub record Inside (bytes : ℕ) (q : Refusal) (o : ℕ) : Type 0 where
  pub clears : touches_nothing q ≡ false
  pub field : of_field q ≡ true → (0 < o) × (o ≤ bytes)
  pub whole : of_field q ≡ false → o ≡ 0

pub in_field : {bytes : ℕ} {q : Refusal} {o : ℕ} → touches_nothing q ≡ false → of_field q ≡ true → o < bytes → Inside bytes q (suc o)
in_field c e l = record { clears = c; field = λ _. (omega arith, omega arith); whole = λ f. let z : ◌≡◌ {A = Bool} true false = cc in absurd (true≢false z) }

pub in_whole : {bytes : ℕ} {q : Refusal} → touches_nothing q ≡ false → of_field q ≡ false → Inside bytes q 0
in_whole c e = record { clears = c; field = λ f. let z : ◌≡◌ {A = Bool} true false = cc in absurd (true≢false z); whole = λ _. refl }

pub inside-most : {bytes : ℕ} {q : Refusal} {o : ℕ} → Inside bytes q o → o ≤ bytes
inside-most {bytes} {q} {o} i = by (of_field q) refl
  where
    by : (b : Bool) → of_field q ≡ b → o ≤ bytes
    by true e = (i.field e).1
    by false e = omega (arith, i.whole e)

module _ {R : Refusal → ℕ → Type 0} {A : Type 0} {P : A → Type 0} where
  pub known_of : {m : Checked A} → Checks R P m → (a : A) → m ≡ accepted a → P a
  known_of (known {a = b} h) a e = let same : b ≡ a = cc in subst P same h
  known_of (gone c) a e = let z : ◌≡◌ {A = ℕ} 0 1 = cc in absurd (omega arith)

  pub cause-of : {m : Checked A} → Checks R P m → (q : Refusal) (place : ℕ) → m ≡ refused q place → R q place
  cause-of (known h) q place e = let z : ◌≡◌ {A = ℕ} 0 1 = cc in absurd (omega arith)
  cause-of (gone {q = p} {place = o} c) q place e =
      let same : p ≡ q = cc in
      let there : o ≡ place = cc in
      subst (R q) there (subst (λ (x : Refusal). R x o) same c)

  pub weaker : {Q : A → Type 0} → ((a : A) → P a → Q a) → {m : Checked A} → Checks R P m → Checks R Q m
  weaker h (known p) = known (h _ p)
  weaker h (gone c) = gone c

  pub forget : {m : Checked A} → Checks R P m → Known P m
  forget (known p) = known p
  forget (gone c) = gone tt

  -- what the first link is known to give may be used in the rest
  pub chain : {B : Type 0} {Q : B → Type 0} {m : Checked A} {next : A → Checked B} → Checks R P m → ((a : A) → P a → Checks R Q (next a)) → Checks R Q (m >>= next)
  unfolding ◌>>=◌
  chain (known {a = a} h) rest = rest a h
  chain (gone c) rest = gone c

  -- a place that is one only in the circumstance
  pub tested-there : (circumstance : Bool) (q : Refusal) (place : ℕ) (next : Checked A) → (circumstance ≡ true → R q place) → (circumstance ≡ false → Checks R P next)
      → Checks R P (refuse_if circumstance q place >> next)
  unfolding ◌>>◌ unless
  tested-there true q place next c rest = gone (c refl)
  tested-there false q place next c rest = rest refl

  pub tested : (circumstance : Bool) (q : Refusal) (place : ℕ) (next : Checked A) → R q place → (circumstance ≡ false → Checks R P next)
      → Checks R P (refuse_if circumstance q place >> next)
  tested circumstance q place next c rest = tested-there circumstance q place next (λ _. c) rest

  pub unless-known : (circumstance : Bool) (q : Refusal) (place : ℕ) (a : A) → R q place → (circumstance ≡ false → P a) → Checks R P (unless circumstance q place a)
  unfolding unless
  unless-known true q place a c h = gone c
  unless-known false q place a c h = known (h refl)

  pub field-known : {bad : A → Bool} → ((x : A) → bad x ≡ false → P x) → (q : Refusal) (o : ℕ) (x : A) → R q (suc o) → Checks R P (field bad q o x)
  unfolding field
  field-known {bad} h q o x c = unless-known (bad x) q (suc o) x c (h x)

  pub either : (b : Bool) {m n : Checked A} → Checks R P m → Checks R P n → Checks R P (if b then m else n)
  either true h k = h
  either false h k = k

  pub placed-known : {S : Refusal → ℕ → Type 0} {m : Checked A} (at : ℕ) → ((q : Refusal) (o : ℕ) → R q o → S q (at + o)) → Checks R P m → Checks S P (placed at m)
  unfolding placed
  placed-known at h (known p) = known p
  placed-known at h (gone c) = gone (h _ _ c)

-- whatever the first link gives
pub through : {A B : Type 0} {Q : B → Type 0} (m : Checked A) {next : A → Checked B} → ((a : A) → Known Q (next a)) → Known Q (m >>= next)
unfolding ◌>>=◌
through (accepted a) rest = rest a
through (refused q place) rest = gone tt

-- ---- a list of fields

listed_more : {A : Type 0} {P : A → Type 0} {n : ℕ} {x : A} {xs : List A} → P x → Listed P n xs → Listed P (suc n) (x ∷ xs)
listed_more {A = A} {P = P} {n = n} {x = x} {xs = xs} px h = record { long = ap suc h.long; at = get }
  where
    get : (d : A) (k : ℕ) → k < suc n → P (get_or (x ∷ xs) k d)
    get d zero l = px
    get d (suc k) l = h.at d k (omega arith)

pub each-known : {R : Refusal → ℕ → Type 0} {A : Type 0} {P : A → Type 0} {read : ℕ → Checked A} (n o : ℕ) → ((p : ℕ) → p < o + 4 * n → Checks R P (read p))
    → Checks R (Listed P n) (each read n o)
unfolding each
each-known zero o h = known (record { long = refl; at = λ d k l. absurd (omega arith) })
each-known (suc n) o h = chain (h o (omega arith)) (λ x px. chain (each-known n (o + 4) (λ p l. h p (omega arith))) (λ xs pxs. known (listed_more px pxs)))
