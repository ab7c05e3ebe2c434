-- The number of currencies matters to a book only where one of its currencies is above it: what is accepted over a is accepted over b, as the same records, where no
-- currency is above b.
use Prim.Native.Nat.{ℕ, zero, suc, ◌+◌, ◌≤◌, ◌<◌}
use mathlib.Core.Bool.{Bool, true, false}
use mathlib.Core.List.{List, [], ◌∷◌, ◌++◌}
use mathlib.Core.Logic.{◌⊎◌, inl, inr}
use mathlib.Core.Path.{◌≡◌, refl, sym, ◌∙◌}
use native.Mathlib.Omega.{arith}
use lib.ListN.{length, take, drop}
use borrow.Author.Tests.{le-leb, lt-leb, leb-false, le-ltb, ltb-false, ne_eqb}
use Rattle.std.specs.Prelude.{if◌then◌else◌}
use Rattle.laws.specs.Tests.{◌is◌, ◌up_to◌, ◌below◌, first}
use Rattle.laws.specs.Sums.{some}
use Rattle.laws.proofs.Tests.{lt-or-ge, or-false, first_to, first-none, none_first}
use Rattle.laws.proofs.Totals.{some_more}
use Rattle.paper.specs.declared.Refusal.{Refusal}
use Rattle.paper.specs.declared.Refusal.TheVariants.{BadCurrency}
use Rattle.paper.specs.Refusals.{Checked, accepted, refused, ◌>>=◌, ◌>>◌, unless, refuse_if}
use Rattle.paper.specs.Records.{Record, currency_of, body_length}
use Rattle.paper.specs.Ledger.{SoFar, so_far, used, curved}
use Rattle.paper.specs.TurnedDown.{bad_currency, lacks_curve, bad_capital, book_too_long, room_too_small}
use Rattle.paper.specs.Fields.{byte, field, currency_at}
use Rattle.paper.specs.Decode.{decode_single, decode_coupons, decode_floating, decode_deposit, decode_loan, decode_term_deposit, decode_option, decode_curve, decode_floating_spread, decode_listed_curve, decode}
use Rattle.paper.specs.Book.{admitted, record_at, next_at, walk_from, walk, covered, outcome}
use Rattle.paper.specs.Stored.{above}
use Rattle.paper.proofs.Checks.{Known, known, known_of, chain, tested, unless-known, either, placed-known, weaker}
use Rattle.paper.proofs.Ranges.{currency-known}
use Rattle.paper.proofs.KindTable.{first_field}

-- ---- links that were passed

module _ {A : Type 0} where
  pub field-own : (bad : A → Bool) (q : Refusal) (o : ℕ) (x : A) → Known (λ z. z ≡ x) (field bad q o x)
  unfolding field
  field-own bad q o x = unless-known (bad x) q (suc o) x tt (λ _. refl)

  passed-test : (t : Bool) (q : Refusal) (place : ℕ) (m : Checked A) (x : A) → (refuse_if t q place >> m) ≡ accepted x → (t ≡ false) × (m ≡ accepted x)
  unfolding ◌>>◌ unless
  passed-test true q place m x e = let z : ◌≡◌ {A = ℕ} 0 1 = cc in absurd (omega arith)
  passed-test false q place m x e = (refl, e)

  passed-link : {B : Type 0} (m : Checked B) (next : B → Checked A) (x : A) → (m >>= next) ≡ accepted x → (y : B) × (m ≡ accepted y) × (next y ≡ accepted x)
  unfolding ◌>>=◌
  passed-link (accepted y) next x e = (y, refl, e)
  passed-link (refused q place) next x e = let z : ◌≡◌ {A = ℕ} 0 1 = cc in absurd (omega arith)

-- ---- a record

currency-other : (a b : ℕ) (body : List ℕ) (c : ℕ) → currency_at a body 0 ≡ accepted c → (b below c) ≡ false → currency_at b body 0 ≡ accepted c
unfolding field unless bad_currency
currency-other a b body c e h =
    let own : c ≡ byte body 0 = known_of (field-own (bad_currency a) BadCurrency 0 (byte body 0)) c e in
    let range = known_of (currency-known {bytes = 1} body 0 (omega arith) a) c e in
    rw (sym own, le-leb 1 c range.from, le-leb c b (ltb-false b c h))

decode-same : (a b : ℕ) (curved : ℕ → Bool) (kind : ℕ) (body : List ℕ) → currency_at a body 0 ≡ currency_at b body 0 → decode a curved kind body ≡ decode b curved kind body
unfolding decode decode_single decode_coupons decode_floating decode_deposit decode_loan decode_term_deposit decode_option decode_curve decode_floating_spread decode_listed_curve
decode-same a b curved kind body e = rw e

module _ (before : SoFar) (book : List ℕ) (at : ℕ) where
  abbrev pub body : List ℕ
  body = take (body_length (byte book at)) (drop (suc at) book)

  pub record-own : (a : ℕ) → Known (λ r. currency_at a body 0 ≡ accepted (currency_of r)) (record_at a before book at)
  unfolding record_at admitted
  record-own a =
      placed-known at (λ q o i. tt)
      (tested _ _ _ _ tt (λ e. tested _ _ _ _ tt (λ f. chain (first_field a before.curved (byte book at) body).own (λ r h. unless-known _ _ _ r tt (λ _. h)))))

  record-within : (a : ℕ) → Known (λ r. (a below currency_of r) ≡ false) (record_at a before book at)
  record-within a = weaker (λ r e. le-ltb a (currency_of r) (known_of (currency-known {bytes = 1} body 0 (omega arith) a) (currency_of r) e).to) (record-own a)

  record-other : (a b : ℕ) (r : Record) → record_at a before book at ≡ accepted r → (b below currency_of r) ≡ false → record_at b before book at ≡ accepted r
  unfolding record_at admitted
  record-other a b r e h =
      let own : currency_at a body 0 ≡ accepted (currency_of r) = known_of (record-own a) r e in
      rw (sym (decode-same a b before.curved (byte book at) body (own ∙ sym (currency-other a b body (currency_of r) own h)))) e

-- ---- the records of a list

above_more : (n : ℕ) (kept : List Record) (r : Record) → above n (kept ++ (r ∷ [])) ≡ false → (above n kept ≡ false) × ((n below currency_of r) ≡ false)
unfolding above
above_more n kept r e = or-false _ _ (sym (some_more (λ x. n below currency_of x) kept r) ∙ e)

more-above : (n : ℕ) (kept : List Record) (r : Record) → above n kept ≡ false → (n below currency_of r) ≡ false → above n (kept ++ (r ∷ [])) ≡ false
unfolding above
more-above n kept r h e = some_more (λ x. n below currency_of x) kept r ∙ rw (h, e)

pub above-less : (n m : ℕ) → n ≤ m → (kept : List Record) → above n kept ≡ false → above m kept ≡ false
unfolding above some
above-less n m l [] e = refl
above-less n m l (r ∷ kept) e =
    let both = or-false (n below currency_of r) (some (λ x. n below currency_of x) kept) e in
    let low : (m below currency_of r) ≡ false = le-ltb m (currency_of r) (omega (arith, ltb-false n (currency_of r) both.0)) in
    rw (low, above-less n m l kept both.1)

pub unused-above : (n c : ℕ) → n < c → (kept : List Record) → above n kept ≡ false → used kept c ≡ false
unfolding above used some
unused-above n c l [] e = refl
unused-above n c l (r ∷ kept) e =
    let both = or-false (n below currency_of r) (some (λ x. n below currency_of x) kept) e in
    let other : (currency_of r is c) ≡ false = ne_eqb (currency_of r) c (λ same. omega (arith, ltb-false n (currency_of r) both.0)) in
    rw (other, unused-above n c l kept both.1)

-- ---- the walk

module _ (a b : ℕ) (book : List ℕ) where
  turn-other : (kept all : List Record) (at : ℕ) (next further : Record → Checked (List Record)) (t : Bool) (x : Checked Record) → record_at a (so_far kept) book at ≡ x
      → (if t then accepted kept else (x >>= next)) ≡ accepted all → above b all ≡ false
      → ((r : Record) → next r ≡ accepted all → (above b (kept ++ (r ∷ [])) ≡ false) × (further r ≡ accepted all))
      → (above b kept ≡ false) × ((if t then accepted kept else (record_at b (so_far kept) book at >>= further)) ≡ accepted all)
  unfolding ◌>>=◌
  turn-other kept all at next further true x here e h rest = let same : kept ≡ all = cc in (rw same h, e)
  turn-other kept all at next further false (accepted r) here e h rest =
      let goes_on = rest r e in
      let both = above_more b kept r goes_on.0 in
      (both.0, rw (record-other (so_far kept) book at a b r here both.1) goes_on.1)
  turn-other kept all at next further false (refused q place) here e h rest = let z : ◌≡◌ {A = ℕ} 0 1 = cc in absurd (omega arith)

  walk-other : (fuel at : ℕ) (kept all : List Record) → walk_from a fuel book at kept ≡ accepted all → above b all ≡ false
      → (above b kept ≡ false) × (walk_from b fuel book at kept ≡ accepted all)
  unfolding walk_from
  walk-other zero at kept all e h = let same : kept ≡ all = cc in (rw same h, e)
  walk-other (suc fuel) at kept all e h =
      turn-other kept all at (λ r. walk_from a fuel book (next_at book at) (kept ++ (r ∷ []))) (λ r. walk_from b fuel book (next_at book at) (kept ++ (r ∷ [])))
      (length book up_to at) (record_at a (so_far kept) book at) refl e h (λ r f. walk-other fuel (next_at book at) (kept ++ (r ∷ [])) all f h)

walk-within : (a fuel : ℕ) (book : List ℕ) (at : ℕ) (kept : List Record) → above a kept ≡ false → Known (λ all. above a all ≡ false) (walk_from a fuel book at kept)
unfolding walk_from
walk-within a zero book at kept h = known h
walk-within a (suc fuel) book at kept h =
    either (length book up_to at) (known h)
    (chain (record-within (so_far kept) book at a) (λ r e. walk-within a fuel book (next_at book at) (kept ++ (r ∷ [])) (more-above a kept r h e)))

-- ---- 15

covered-own : (a : ℕ) (kept : List Record) → Known (λ all. (all ≡ kept) × ((c : ℕ) → 1 ≤ c → c ≤ a → lacks_curve kept c ≡ false)) (covered a kept)
unfolding covered
covered-own a kept = unless-known _ _ _ kept tt (λ e. (refl, λ c l h. first-none (lacks_curve kept) 1 a (end e) c l (omega arith)))
  where
    end : (first (lacks_curve kept) 1 a up_to a) ≡ false → first (lacks_curve kept) 1 a ≡ 1 + a
    end e = omega (arith, leb-false (first (lacks_curve kept) 1 a) a e, first_to (lacks_curve kept) 1 a)

covered-all : (b : ℕ) (kept : List Record) → ((c : ℕ) → 1 ≤ c → c ≤ b → lacks_curve kept c ≡ false) → covered b kept ≡ accepted kept
unfolding covered unless
covered-all b kept none =
    let end : first (lacks_curve kept) 1 b ≡ 1 + b = none_first (lacks_curve kept) 1 b (λ c l h. none c l (omega arith)) in
    rw (end, lt-leb (1 + b) b (omega arith))

-- over a, and above a there is nothing that could lack one
covered-other : (a b : ℕ) (kept : List Record) → above a kept ≡ false → ((c : ℕ) → 1 ≤ c → c ≤ a → lacks_curve kept c ≡ false) → covered b kept ≡ accepted kept
unfolding lacks_curve
covered-other a b kept within none = covered-all b kept (λ c l h. by c l (lt-or-ge a c))
  where
    by : (c : ℕ) → 1 ≤ c → (a < c) ⊎ (c ≤ a) → lacks_curve kept c ≡ false
    by c l (inl m) = rw (unused-above a c m kept within)
    by c l (inr m) = none c l m

-- ---- the book

module _ (a : ℕ) (book : List ℕ) (T report_room ledger_room : ℕ) (kept : List Record) (e : outcome a book T report_room ledger_room ≡ accepted kept) where
  pub tested-before : (book_too_long (length book) ≡ false) × (bad_capital T ≡ false) × ((walk a book >>= covered a) ≡ accepted kept)
  unfolding outcome
  tested-before =
      let room = passed-test _ _ _ _ _ e in
      let long = passed-test _ _ _ _ _ room.1 in
      let capital = passed-test _ _ _ _ _ long.1 in
      (long.0, capital.0, capital.1)

  pub walked : (walk a book ≡ accepted kept) × ((c : ℕ) → 1 ≤ c → c ≤ a → lacks_curve kept c ≡ false)
  walked =
      let link = passed-link (walk a book) (covered a) kept tested-before.2 in
      let own = known_of (covered-own a link.0) kept link.2 in
      (rw own.0 link.1, rw own.0 own.1)

  pub accepted-within : above a kept ≡ false
  unfolding walk above some
  accepted-within = known_of (walk-within a (length book) book 0 [] refl) kept walked.0

  pub outcome-other : (b other_report other_ledger : ℕ) → above b kept ≡ false → room_too_small b other_report other_ledger ≡ false → outcome b book T other_report other_ledger ≡ accepted kept
  unfolding outcome walk unless ◌>>=◌ ◌>>◌
  outcome-other b other_report other_ledger h fits =
      rw (fits, tested-before.0, tested-before.1, (walk-other a b book (length book) 0 [] kept walked.0 h).1, covered-other a b kept accepted-within walked.1)
