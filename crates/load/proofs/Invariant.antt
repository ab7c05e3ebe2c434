-- The walk's invariant, and what each way on or out makes of it.
use Prim.Native.Nat.{ℕ, zero, suc, pred, ◌-◌, ◌≤◌, ◌<◌}
use mathlib.Core.List.{List, [], ◌∷◌, ◌++◌}
use mathlib.Core.Path.{◌≡◌, refl, sym, ap, ◌∙◌}
use native.Mathlib.Numerals.{sub-one}
use native.Mathlib.Omega.{arith}
use borrow.Author.Tests.{le-leb, lt-leb}
use lib.ListN.{length}
use Rattle.paper.specs.declared.Refusal.{Refusal}
use Rattle.paper.specs.Refusals.{Checked, accepted, refused, ◌>>=◌}
use Rattle.paper.specs.Records.{Record, currencies}
use Rattle.paper.specs.Ledger.{SoFar, so_far, curved}
use Rattle.paper.specs.Book.{record_at, next_at, walk_from, walk}
use Rattle.paper.proofs.Checks.{known_of}
use Rattle.paper.proofs.Walk.{Good, good_none, good_more, Passed, record-passed}
use Rattle.arrays.specs.declared.masks.Masks.{Masks}
use Rattle.arrays.specs.Masks.{marked}
use Rattle.arrays.specs.Rooms.{so_far_by}
use Rattle.arrays.specs.Arrays.{Arrays, arrays_of, with_record, Holding}
use Rattle.arrays.proofs.More.{arrays-more, size_is, option_size-is}
use Rattle.arrays.proofs.Bounds.{holding}
use Rattle.arrays.proofs.Sets.{MasksOf, masks-none, masks-more}
use Rattle.arrays.proofs.Agree.{Agree, record-agrees, sound-currency, sound-fresh}
use Rattle.load.specs.Walk.{or_else, kept_from, kept_in}

-- the walk is at a place with the records kept in its arrays; the fuel is more than the bytes left
pub record Walking (book : List ℕ) (a : Arrays) (at : ℕ) (m : Masks) : Type 0 where
  pub kept : List Record
  pub fuel : ℕ
  pub more : length book - at ≤ fuel
  pub same : walk_from currencies fuel book at kept ≡ walk currencies book
  pub ends_with : kept_from fuel book at kept ≡ kept_in book
  pub arrays : a ≡ arrays_of kept
  pub masks : MasksOf m kept
  pub good : Good kept

pub begun : (book : List ℕ) (a : Arrays) → a ≡ arrays_of [] → Walking book a 0 (record { used = 0; curved = 0 })
unfolding walk kept_in
begun book a e = record { kept = []; fuel = length book; more = omega arith; same = refl; ends_with = refl; arrays = e; masks = masks-none; good = good_none }

-- ---- a turn of the paper's walk, and of what it keeps

-- what it comes to after what was read
module _ (fuel : ℕ) (book : List ℕ) (at : ℕ) (kept : List Record) where
  abbrev walks-after : Checked Record → Checked (List Record)
  walks-after x = x >>= (λ r. walk_from currencies (pred fuel) book (next_at book at) (kept ++ (r ∷ [])))

  abbrev keeps-after : Checked Record → List Record
  keeps-after x = or_else kept x (λ r. kept_from (pred fuel) book (next_at book at) (kept ++ (r ∷ [])))

turn : (fuel : ℕ) (book : List ℕ) (at : ℕ) (kept : List Record) → 0 < fuel → at < length book
    → (walk_from currencies fuel book at kept ≡ walks-after fuel book at kept (record_at currencies (so_far kept) book at))
    × (kept_from fuel book at kept ≡ keeps-after fuel book at kept (record_at currencies (so_far kept) book at))
unfolding walk_from kept_from
turn zero book at kept f l = absurd (omega arith)
turn (suc fuel) book at kept f l = (rw (lt-leb (length book) at l), rw (lt-leb (length book) at l))

over : (fuel : ℕ) (book : List ℕ) (at : ℕ) (kept : List Record) → length book ≤ at → (walk_from currencies fuel book at kept ≡ accepted kept) × (kept_from fuel book at kept ≡ kept)
unfolding walk_from kept_from
over zero book at kept l = (refl, refl)
over (suc fuel) book at kept l = (rw (le-leb (length book) at l), rw (le-leb (length book) at l))

module _ (book : List ℕ) (a : Arrays) (at : ℕ) (m : Masks) (w : Walking book a at m) where
  pub holds : Holding m a
  holds = rw w.arrays (holding w.kept w.good m w.masks.used-is w.masks.curved-is)

  abbrev pub before : SoFar
  before = so_far_by m.curved a.sizes a.option_sizes

  agrees : (c : ℕ) → 1 ≤ c → c ≤ currencies → Agree c before (so_far w.kept)
  agrees c l h = rw w.arrays (record {
    curved = w.masks.curved-is.has-it c l h;
    size = λ i n. size_is w.kept c i l h n;
    option_size = λ i n k. option_size-is w.kept c i l h n k;
  })

  -- by the arrays a place reads as by the records kept
  here : record_at currencies before book at ≡ record_at currencies (so_far w.kept) book at
  here = record-agrees before (so_far w.kept) agrees book at

  -- at the end of the book
  module _ (l : length book ≤ at) where
    pub all-of-them : kept_in book ≡ w.kept
    all-of-them = sym w.ends_with ∙ (over w.fuel book at w.kept l).1

    pub ended : walk currencies book ≡ accepted (kept_in book)
    ended = sym w.same ∙ (over w.fuel book at w.kept l).0 ∙ ap accepted (sym all-of-them)

  -- a record stands here: the rest of the paper's walk, by what was read
  module _ (l : at < length book) where
    abbrev read : Checked Record
    read = record_at currencies before book at

    goes : (x : Checked Record) → read ≡ x → (walks-after w.fuel book at w.kept x ≡ walk currencies book) × (keeps-after w.fuel book at w.kept x ≡ kept_in book)
    goes x e =
        let both = turn w.fuel book at w.kept (omega (arith, w.more)) l in
        let same = sym e ∙ here in
        (ap (walks-after w.fuel book at w.kept) same ∙ sym both.0 ∙ w.same, ap (keeps-after w.fuel book at w.kept) same ∙ sym both.1 ∙ w.ends_with)

    module _ (q : Refusal) (place : ℕ) (e : read ≡ refused q place) where
      pub stops : walk currencies book ≡ refused q place
      unfolding ◌>>=◌
      stops = sym (goes (refused q place) e).0

      -- the arrays are as they were
      pub stops-with : a ≡ arrays_of (kept_in book)
      stops-with = w.arrays ∙ ap arrays_of (goes (refused q place) e).1

    pub takes : (r : Record) (a' : Arrays) → read ≡ accepted r → a' ≡ with_record r a → Walking book a' (next_at book at) (marked r m)
    unfolding ◌>>=◌ next_at
    takes r a' e taken =
        let p : Passed currencies w.kept r = known_of (record-passed currencies w.kept book at) r (sym here ∙ e) in
        let c = sound-currency (curved w.kept) r p.sound in
        record {
          kept = w.kept ++ (r ∷ []);
          fuel = pred w.fuel;
          more = omega (arith, sub-one w.fuel, w.more);
          same = (goes (accepted r) e).0;
          ends_with = (goes (accepted r) e).1;
          arrays = taken ∙ ap (with_record r) w.arrays ∙ sym (arrays-more w.kept r c.from c.to (sound-fresh (curved w.kept) r p.sound));
          masks = masks-more m w.kept r c.from c.to w.masks;
          good = good_more r w.good p;
        }
