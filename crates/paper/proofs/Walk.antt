-- What is known of the records of a book that is walked to its end, and of the walk itself.
use Prim.Native.Nat.{ℕ, zero, suc, ◌-◌, ◌≤◌, ◌<◌}
use mathlib.Core.Bool.{Bool, true, false, ◌&&◌, ◌||◌}
use mathlib.Core.List.{List, [], ◌∷◌, ◌++◌, append_assoc, append-nil}
use mathlib.Core.Path.{◌≡◌, refl, sym, subst}
use native.Mathlib.Omega.{arith}
use lib.ListN.{length, take, drop}
use borrow.Author.Tests.{le-leb, leb-false}
use Rattle.std.specs.Prelude.{if◌then◌else◌}
use Rattle.laws.specs.Tests.{◌is◌, ◌up_to◌}
use Rattle.laws.proofs.Totals.{some_more}
use Rattle.paper.specs.Ladder.{buckets}
use Rattle.paper.specs.Refusals.{number_of, of_field, Checked, accepted, refused, ◌>>=◌}
use Rattle.paper.specs.Records.{Record, currency_of, is_curve, body_length}
use Rattle.paper.specs.Ledger.{rate_of, totals, SoFar, so_far, curved}
use Rattle.paper.specs.TurnedDown.{over_limit}
use Rattle.paper.specs.Fields.{byte}
use Rattle.paper.specs.Book.{admitted, record_from, record_at, next_at, walk_from, walk, covered, outcome, touches_nothing}
use Rattle.paper.specs.Sound.{Ranged, Sound}
use Rattle.paper.proofs.Checks.{Checks, Known, Clears, Inside, in_whole, known, known_of, weaker, forget, chain, tested, unless-known, either, placed-known}
use Rattle.paper.proofs.KindTable.{first_field}
use Rattle.paper.proofs.Limits.{Limited, limited-none, limited-more}
use Rattle.paper.proofs.Rate.{rate-more, nil-ranged, own-ranged}

-- a record that was let in after those before it: its fields are as they should be, its currency had no curve if it is one, and 14 has room for it
pub record Passed (top : ℕ) (before : List Record) (r : Record) : Type 0 where
  pub sound : Sound top (curved before) r
  pub room : over_limit (so_far before) r ≡ false

-- ---- what the list of them keeps to

pub record Good (kept : List Record) : Type 0 where
  pub limited : Limited kept
  pub ranged : (c i k : ℕ) → i < 7 → k < buckets → Ranged ((totals kept).rate c i k)

pub good_none : Good []
unfolding rate_of
good_none = record { limited = limited-none; ranged = λ c i k l m. nil-ranged c i k }

pub curved-more : (kept : List Record) (r : Record) (c : ℕ) → curved (kept ++ (r ∷ [])) c ≡ curved kept c || (currency_of r is c && is_curve r)
unfolding curved
curved-more kept r c = some_more (λ x. currency_of x is c && is_curve x) kept r

pub good_more : {top : ℕ} {kept : List Record} (r : Record) → Good kept → Passed top kept r → Good (kept ++ (r ∷ []))
good_more {top} {kept} r g p = record {
  limited = limited-more r g.limited p.room;
  ranged = λ c i k l m. rw (rate-more c i k kept (r ∷ [])) (by c i k l m (curved kept c));
}
  where
    by : (c i k : ℕ) → i < 7 → k < buckets → (b : Bool) → Ranged (if b then rate_of kept c i k else rate_of (r ∷ []) c i k)
    by c i k l m true = g.ranged c i k l m
    by c i k l m false = own-ranged c i k top (curved kept) r p.sound l m

-- ---- each of them, after those before it

module _ (top : ℕ) where
  unfoldable pub Each : List Record → List Record → Type 0
  Each before [] = Unit {0}
  Each before (r ∷ rest) = Passed top before r × Each (before ++ (r ∷ [])) rest

  each_more : (before rest : List Record) (r : Record) → Each before rest → Passed top (before ++ rest) r → Each before (rest ++ (r ∷ []))
  unfolding Each
  each_more before [] r h p = ((rw (append-nil before) at p), tt)
  each_more before (x ∷ rest) r h p =
      (h.0, each_more (before ++ (x ∷ [])) rest r h.1 (subst (λ (l : List Record). Passed top l r) (sym (append_assoc before (x ∷ []) rest)) p))

  each_at : (before first rest : List Record) (r : Record) → Each before (first ++ (r ∷ rest)) → Passed top (before ++ first) r
  unfolding Each
  each_at before [] rest r h = rw (append-nil before) h.0
  each_at before (x ∷ first) rest r h =
      subst (λ (l : List Record). Passed top l r) (append_assoc before (x ∷ []) first) (each_at (before ++ (x ∷ [])) first rest r h.1)

  each-good : (before rest : List Record) → Good before → Each before rest → Good (before ++ rest)
  unfolding Each
  each-good before [] g h = rw (append-nil before) g
  each-good before (r ∷ rest) g h = rw (append_assoc before (r ∷ []) rest) at (each-good (before ++ (r ∷ [])) rest (good_more r g h.0) h.1)

  -- ---- the walk

  -- a body that was let in, or is refused within its record
  pub admitted-inside : (before : SoFar) (kind : ℕ) (body : List ℕ)
      → Checks (Inside (body_length kind)) (λ r. Sound top before.curved r × (over_limit before r ≡ false)) (admitted top before kind body)
  unfolding admitted touches_nothing number_of of_field
  admitted-inside before kind body = chain (first_field top before.curved kind body).sound (λ r s. unless-known _ _ _ _ (in_whole refl refl) (λ t. (s, t)))

  -- and a record at a place of the book
  pub record-inside : (kept : List Record) (book : List ℕ) (at : ℕ) → Checks (Inside (body_length (byte book at))) (Passed top kept) (record_from top (so_far kept) book at)
  unfolding touches_nothing number_of of_field
  record-inside kept book at =
      tested _ _ _ _ (in_whole refl refl) (λ e.
      tested _ _ _ _ (in_whole refl refl) (λ f.
      weaker (λ r p. record { sound = p.0; room = p.1 })
      (admitted-inside (so_far kept) (byte book at) (take (body_length (byte book at)) (drop (suc at) book)))))

  pub record-passed : (kept : List Record) (book : List ℕ) (at : ℕ) → Checks Clears (Passed top kept) (record_at top (so_far kept) book at)
  unfolding record_at
  record-passed kept book at = placed-known at (λ q o i. i.clears) (record-inside kept book at)

  walk-each : (fuel : ℕ) (book : List ℕ) (at : ℕ) (kept : List Record) → Each [] kept → Checks Clears (Each []) (walk_from top fuel book at kept)
  unfolding walk_from
  walk-each zero book at kept h = known h
  walk-each (suc fuel) book at kept h =
      either (length book up_to at) (known h)
      (chain (record-passed kept book at) (λ r p. walk-each fuel book (next_at book at) (kept ++ (r ∷ [])) (each_more [] kept r h p)))

  -- a record is refused for one of 1 to 14, and after the last one 15 is left: none of 16 to 18
  records-each : (book : List ℕ) → Checks Clears (Each []) (walk top book >>= covered top)
  unfolding walk covered touches_nothing number_of Each
  records-each book = chain (walk-each (length book) book 0 [] tt) (λ kept h. unless-known _ _ _ _ refl (λ t. h))

  pub records-good : (book : List ℕ) → Checks Clears Good (walk top book >>= covered top)
  records-good book = weaker (λ kept h. each-good [] kept good_none h) (records-each book)

  module _ (book : List ℕ) (T report_room ledger_room : ℕ) where
    outcome-each : Known (Each []) (outcome top book T report_room ledger_room)
    unfolding outcome
    outcome-each = tested _ _ _ _ tt (λ e. tested _ _ _ _ tt (λ f. tested _ _ _ _ tt (λ g. forget (records-each book))))

    pub outcome-good : Known Good (outcome top book T report_room ledger_room)
    outcome-good = weaker (λ kept h. each-good [] kept good_none h) outcome-each

    module _ (kept : List Record) (e : outcome top book T report_room ledger_room ≡ accepted kept) where
      -- what every record of an accepted book is
      pub every-record : (before after : List Record) (r : Record) → kept ≡ before ++ (r ∷ after) → Passed top before r
      every-record before after r split = each_at [] before after r (rw split at (known_of outcome-each kept e))

-- ---- the fuel is never short: any that is no less than the bytes left comes to the same

module _ (top : ℕ) (book : List ℕ) where
  over : (fuel at : ℕ) (kept : List Record) → length book ≤ at → walk_from top fuel book at kept ≡ accepted kept
  unfolding walk_from
  over zero at kept l = refl
  over (suc fuel) at kept l = rw (le-leb (length book) at l)

  fuels-alike : (fuel other at : ℕ) (kept : List Record) → length book - at ≤ fuel → length book - at ≤ other → walk_from top fuel book at kept ≡ walk_from top other book at kept
  unfolding walk_from next_at ◌>>=◌
  fuels-alike zero other at kept l m = sym (over other at kept (omega arith))
  fuels-alike (suc fuel) zero at kept l m = over (suc fuel) at kept (omega arith)
  fuels-alike (suc fuel) (suc other) at kept l m =
      by (length book up_to at) refl (record_at top (so_far kept) book at)
      (λ r here. fuels-alike fuel other (next_at book at) (kept ++ (r ∷ [])) (omega arith) (omega arith))
    where
      by : (b : Bool) → (length book up_to at) ≡ b → (x : Checked Record)
          → ((r : Record) → at < length book → walk_from top fuel book (next_at book at) (kept ++ (r ∷ [])) ≡ walk_from top other book (next_at book at) (kept ++ (r ∷ [])))
          → (if b then accepted kept else (x >>= (λ r. walk_from top fuel book (next_at book at) (kept ++ (r ∷ [])))))
          ≡ (if b then accepted kept else (x >>= (λ r. walk_from top other book (next_at book at) (kept ++ (r ∷ [])))))
      by true e x rest = refl
      by false e (accepted r) rest = rest r (leb-false (length book) at e)
      by false e (refused q place) rest = refl

  pub fuel-enough : (fuel : ℕ) → length book ≤ fuel → walk_from top fuel book 0 [] ≡ walk top book
  unfolding walk
  fuel-enough fuel l = fuels-alike fuel (length book) 0 [] (omega arith) (omega arith)
