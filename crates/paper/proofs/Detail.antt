-- What stands behind a report: a share is above 15 per cent exactly where the measure is above the limit, and the records taken are the records kept.
use Prim.Native.Nat.{ℕ, zero, suc, ◌+◌, ◌*◌, ◌-◌, ◌/◌, ◌%◌, ◌≤◌, ◌<◌}
use mathlib.Core.Bool.{Bool, true, false, ◌&&◌}
use mathlib.Core.List.{List, [], ◌∷◌, ◌++◌}
use mathlib.Core.Logic.{◌⊎◌, inl, inr}
use mathlib.Core.Path.{◌≡◌, refl, sym, ap, ◌∙◌}
use native.Mathlib.Nat.{add-zero, div-add-mod, mod-lt, mul-le-mul_left}
use native.Mathlib.Omega.{arith}
use borrow.Author.Tests.{eqb-false, eq-eqb, ne_eqb}
use lib.ListN.{length, drop, length-append}
use lib.Seq.{get_or-take, get_or-drop}
use Rattle.std.specs.Prelude.{if◌then◌else◌}
use Rattle.laws.specs.Tests.{◌is◌, ◌up_to◌}
use Rattle.laws.specs.Sums.{sum, total}
use Rattle.laws.specs.Nearest.{rounded_up}
use Rattle.laws.proofs.Tests.{lt-or-ge}
use Rattle.laws.proofs.Sums.{sum-ext, sum-only}
use Rattle.laws.proofs.Totals.{total-ones, sum-total}
use Rattle.paper.specs.declared.Refusal.TheVariants.{BadCurrency}
use Rattle.paper.specs.Refusals.{Checked, accepted, refused, ◌>>=◌}
use Rattle.paper.specs.Records.{Record, currency_of, kind_count, body_length}
use Rattle.paper.specs.Ledger.{SoFar, so_far}
use Rattle.paper.specs.TurnedDown.{unknown_kind, bad_currency}
use Rattle.paper.specs.Fields.{byte}
use Rattle.paper.specs.Book.{record_at, next_at, walk_from, walk, outcome}
use Rattle.paper.specs.Detail.{places_from, places, is_of, among, taken, share}
use Rattle.paper.proofs.Checks.{Known, known, gone, known_of, tested, placed-known}
use Rattle.paper.proofs.Ranges.{currency-known}
use Rattle.paper.proofs.KindTable.{known-kind}
use Rattle.paper.proofs.OtherTop.{field-own, body, record-own, walked}

-- ---- the share

pub share-above : (m T : ℕ) → 1 ≤ T → ((15 * T < 100 * m → 1500 < share m T) × (100 * m ≤ 15 * T → share m T ≤ 1500))
unfolding share rounded_up
share-above m T h = (λ above. more above (lt-or-ge 1500 q), λ within. fewer within (lt-or-ge 1500 q))
  where
    n : ℕ
    n = 10000 * m + (T - 1)

    q : ℕ
    q = n / T

    parts : T * q + n % T ≡ n
    parts = div-add-mod n T

    rest : n % T < T
    rest = mod-lt n h

    more : 15 * T < 100 * m → (1500 < q) ⊎ (q ≤ 1500) → 1500 < q
    more above (inl l) = l
    more above (inr l) = absurd (omega (arith, parts, rest, mul-le-mul_left T l))

    fewer : 100 * m ≤ 15 * T → (1500 < q) ⊎ (q ≤ 1500) → q ≤ 1500
    fewer within (inl l) = absurd (omega (arith, parts, rest, mul-le-mul_left T l))
    fewer within (inr l) = l

-- ---- the records

-- an outcome has one list of records
pub kept-once : (xs ys : List Record) → ◌≡◌ {A = Checked (List Record)} (accepted xs) (accepted ys) → xs ≡ ys
kept-once xs ys e = cc

pub never : {B : Type 0} {xs : List Record} {r : _} {place : ℕ} → ◌≡◌ {A = Checked (List Record)} (refused r place) (accepted xs) → B
never e = let z : ◌≡◌ {A = ℕ} 0 1 = cc in absurd (omega arith)

module _ (top : ℕ) (book : List ℕ) where
  -- what is 1 at each record that is kept comes to as many as there are
  module _ (f : ℕ → ℕ) (once : (before : SoFar) (at : ℕ) (r : Record) → record_at top before book at ≡ accepted r → f at ≡ 1) where
    weighed : (fuel at : ℕ) (kept all : List Record) → walk_from top fuel book at kept ≡ accepted all → length kept + total f (places_from fuel book at) ≡ length all
    unfolding walk_from places_from total ◌>>=◌
    weighed zero at kept all e = omega (arith, ap length (kept-once kept all e))
    weighed (suc fuel) at kept all e =
        by (length book up_to at) (record_at top (so_far kept) book at) refl (λ r. weighed fuel (next_at book at) (kept ++ (r ∷ [])) all) e
      where
        by : (over : Bool) (x : Checked Record) → record_at top (so_far kept) book at ≡ x
            → ((r : Record) → walk_from top fuel book (next_at book at) (kept ++ (r ∷ [])) ≡ accepted all → length (kept ++ (r ∷ [])) + total f (places_from fuel book (next_at book at)) ≡ length all)
            → (if over then accepted kept else (x >>= (λ r. walk_from top fuel book (next_at book at) (kept ++ (r ∷ []))))) ≡ accepted all
            → length kept + total f (if over then [] else (at ∷ places_from fuel book (next_at book at))) ≡ length all
        by true x here further e = omega (arith, ap length (kept-once kept all e))
        by false (accepted r) here further e = omega (arith, further r e, length-append kept (r ∷ []), once (so_far kept) at r here)
        by false (refused r place) here further e = never e

    weighed-all : (kept : List Record) → walk top book ≡ accepted kept → total f (places book) ≡ length kept
    unfolding walk places
    weighed-all kept e = omega (arith, weighed (length book) 0 [] kept e)

  -- ---- each is of one kind and one currency

  constant : {P : Type 0} {A : Type 0} → P → (m : Checked A) → Known (λ _. P) m
  constant p (accepted a) = known p
  constant p (refused q place) = gone tt

  record-kind : (before : SoFar) (at : ℕ) → Known (λ r. unknown_kind (byte book at) ≡ false) (record_at top before book at)
  unfolding record_at
  record-kind before at = placed-known at (λ q o i. tt) (tested _ _ _ _ tt (λ e. constant e _))

  -- the two bytes that tell them, in range
  pub record InRange (at : ℕ) : Type 0 where
    pub kind : (1 ≤ byte book at) × (byte book at ≤ kind_count)
    pub currency : (1 ≤ byte book (suc at)) × (byte book (suc at) ≤ top)

  in-range : (before : SoFar) (at : ℕ) (r : Record) → record_at top before book at ≡ accepted r → InRange at
  unfolding unknown_kind
  in-range before at r e =
      let length-known = eqb-false (body_length (byte book at)) 0 (known_of (record-kind before at) r e) in
      let own = known_of (record-own before book at top) r e in
      let read : currency_of r ≡ byte (body before book at) 0 = known_of (field-own (bad_currency top) BadCurrency 0 (byte (body before book at) 0)) (currency_of r) own in
      let same : byte (body before book at) 0 ≡ byte book (suc at) = get_or-take (body_length (byte book at)) (drop (suc at) book) 0 0 (omega arith) ∙ get_or-drop (suc at) book 0 0 ∙ ap (byte book) (add-zero (suc at)) in
      let range = known_of (currency-known {bytes = 1} (body before book at) 0 (omega arith) top) (currency_of r) own in
      record {
        kind = known-kind (byte book at) length-known;
        currency = (omega (arith, read, same, range.from), omega (arith, read, same, range.to));
      }

  counted-once : (at : ℕ) → InRange at → sum (λ c. sum (λ k. if is_of book (suc c) (suc k) at then 1 else 0) kind_count) top ≡ 1
  unfolding is_of
  counted-once at p =
      let a = byte book at in
      let b = byte book (suc at) in
      let kinds : (c : ℕ) → sum (λ k. if a is suc k && b is c then 1 else 0) kind_count ≡ (if b is c then 1 else 0) =
      λ c. sum-only (λ k. if a is suc k && b is c then 1 else 0) kind_count (a - 1) (omega arith) (λ k _ n. rw (ne_eqb a (suc k) (λ e. n (omega arith)))) ∙ rw (eq-eqb a (suc (a - 1)) (omega arith)) in
      sum-ext _ _ top (λ c _. kinds (suc c))
      ∙ sum-only (λ c. if b is suc c then 1 else 0) top (b - 1) (omega arith) (λ c _ n. rw (ne_eqb b (suc c) (λ e. n (omega arith))))
      ∙ rw (eq-eqb b (suc (b - 1)) (omega arith))

  module _ (T report_room ledger_room : ℕ) (kept : List Record) (e : outcome top book T report_room ledger_room ≡ accepted kept) where
    walk_is : walk top book ≡ accepted kept
    walk_is = (walked top book T report_room ledger_room kept e).0

    -- of an accepted book as many records are taken as are kept
    pub taken-kept : length (places book) ≡ length kept
    taken-kept = sym (total-ones (places book)) ∙ weighed-all (λ at. 1) (λ before at r _. refl) kept walk_is

    -- and each is counted once, among those of one kind and one currency
    pub taken-once : sum (λ c. sum (λ k. taken book (suc c) (suc k)) kind_count) top ≡ length kept
    unfolding among
    taken-once =
        sum-ext _ _ top (λ c _. sum-total (λ at k. if is_of book (suc c) (suc k) at then 1 else 0) (places book) kind_count)
        ∙ sum-total (λ at c. sum (λ k. if is_of book (suc c) (suc k) at then 1 else 0) kind_count) (places book) top
        ∙ weighed-all (λ at. sum (λ c. sum (λ k. if is_of book (suc c) (suc k) at then 1 else 0) kind_count) top) (λ before at r h. counted-once at (in-range before at r h)) kept walk_is
