-- What a turn makes of the walk: it goes on, or it is over and has its answer.
use Prim.Native.Nat.{ℕ, ◌≤◌, ◌<◌}
use mathlib.Core.List.{List}
use mathlib.Core.Path.{◌≡◌, refl, sym, ap, subst, ◌∙◌}
use native.Mathlib.Omega.{arith}
use borrow.Author.Tests.{leb-false}
use lib.ListN.{length}
use Rattle.std.specs.Prelude.{Some, None, Result, Ok, Err}
use Rattle.paper.specs.declared.Fault.{Fault}
use Rattle.paper.specs.Refusals.{Checked, accepted, refused}
use Rattle.paper.specs.Records.{Record, currencies}
use Rattle.paper.specs.Book.{record_at}
use Rattle.arrays.specs.declared.masks.Masks.{Masks}
use Rattle.arrays.specs.Masks.{marked}
use Rattle.arrays.specs.Arrays.{Arrays, Sized, arrays_of}
use Rattle.lending.specs.Records.{tested}
use Rattle.reader.specs.declared.Reader.{Reader}
use Rattle.reader.specs.declared.Found.{Found}
use Rattle.reader.specs.Reader.{stands_at, Reads}
use Rattle.reader.proofs.Places.{Whole, over-at, found-at, refused-at}
use Rattle.turn.specs.Step.{Stepped, Turns}
use Rattle.load.specs.Walk.{AllKept, Walks}
use Rattle.load.proofs.Invariant.{Walking, all-of-them, ended, stops, stops-with, takes}

-- the walk is where a reader of the book is
pub record Reading (book : List ℕ) (a : Arrays) (r : Reader) (m : Masks) : Type 0 where
  pub own : r.book.now ≡ book
  pub walking : Walking book a r.at m

abbrev pub AsLong : Arrays → Arrays → Type 0
AsLong x y =
    (length x.ledger ≡ length y.ledger) × ((length x.rates ≡ length y.rates) × ((length x.add_ons ≡ length y.add_ons)
    × ((length x.sizes ≡ length y.sizes) × ((length x.option_sizes ≡ length y.option_sizes) × Unit {0}))))

pub as_long : {n : ℕ} {x y z : Arrays} → z ≡ x → Sized n x → Sized n y → AsLong z y
as_long e p q =
    let ledger = p.ledger-long ∙ sym q.ledger-long in
    let rates = p.rates-long ∙ sym q.rates-long in
    let add_ons = p.add_ons-long ∙ sym q.add_ons-long in
    let sizes = p.sizes-long ∙ sym q.sizes-long in
    let option_sizes = p.option_sizes-long ∙ sym q.option_sizes-long in
    rw e (ledger, (rates, (add_ons, (sizes, (option_sizes, tt)))))

ok-once : (m n : Masks) → ◌≡◌ {A = Result Masks Fault} (Ok m) (Ok n) → m ≡ n
ok-once m n e = cc

err-once : (f g : Fault) → ◌≡◌ {A = Result Masks Fault} (Err f) (Err g) → f ≡ g
err-once f g e = cc

ok-err : {B : Type 0} (m : Masks) (f : Fault) → ◌≡◌ {A = Result Masks Fault} (Ok m) (Err f) → B
ok-err m f e = let z : ◌≡◌ {A = ℕ} 0 1 = cc in absurd (omega arith)

module _ {book : List ℕ} {a : Arrays} {r : Reader} {m : Masks} (g : Reading book a r m) where
  -- the end of the book
  pub walks-ended : {r' : Reader} → Reads r None r' → Walks book (Ok m) a
  walks-ended s =
      let l : length book ≤ r.at = over-at book r.at (rw g.own at s.0) in
      let all = all-of-them book a r.at m g.walking l in
      let kept : AllKept book m = record {
        walked = ended book a r.at m g.walking l;
        used-is = rw all g.walking.masks.used-is;
        curved-is = rw all g.walking.masks.curved-is;
      } in
      record {
        arrays = g.walking.arrays ∙ ap arrays_of (sym all);
        all = λ n f. subst (AllKept book) (ok-once m n f) kept;
        stopped = λ f e. ok-err m f e;
      }

  -- a record is turned down
  walks-stopped : (f : Fault) (a' : Arrays) → r.at < length book → record_at currencies (tested m.curved a) book r.at ≡ refused f.cause f.place → a' ≡ a → Walks book (Err f) a'
  walks-stopped f a' l e same = record {
    arrays = same ∙ stops-with book a r.at m g.walking l f.cause f.place e;
    all = λ n u. ok-err n f (sym u);
    stopped = λ h u. stops book a r.at m g.walking l f.cause f.place e ∙ ap (λ (x : Fault). refused x.cause x.place) (err-once f h u);
  }

  -- by the reader, for 1 or 2
  pub walks-unread : {r' : Reader} {f : Fault} → Reads r (Some (Err f)) r' → Walks book (Err f) a
  walks-unread s = let no = refused-at book r.at (rw g.own at s.0) (tested m.curved a) in walks-stopped _ a no.0 no.1 refl

  module _ {r' : Reader} {found : Found} (s : Reads r (Some (Ok found)) r') where
    -- it stands at the walk's place
    here : Whole book r.at found
    here = found-at book r.at (rw g.own at s.0)

    pub found-here : Some (Ok found) ≡ stands_at book found.at
    found-here = subst (λ n. Some (Ok found) ≡ stands_at book n) (sym here.at-is) (rw g.own at s.0)

    inside : r.at < length book
    inside = leb-false (length book) r.at here.goes_on

    module _ {a' : Arrays} where
      by_kept : (x : Checked Record) {m' : Masks} → record_at currencies (tested m.curved a) book r.at ≡ x → Stepped x m a (Ok m') a' → Reading book a' r' m'
      by_kept (accepted k) {m'} e t =
          let marks = ok-once m' (marked k m) t.answered in
          let there = s.2 ∙ here.next-is in
          record {
            own = ap (λ b. b.now) s.1 ∙ g.own;
            walking = rw (there, marks) (takes book a r.at m g.walking inside k a' e t.arrays);
          }
      by_kept (refused q place) {m'} e t = ok-err m' _ t.answered

      by_stopped : (x : Checked Record) {f : Fault} → record_at currencies (tested m.curved a) book r.at ≡ x → Stepped x m a (Err f) a' → Walks book (Err f) a'
      by_stopped (accepted k) {f} e t = ok-err (marked k m) f (sym t.answered)
      by_stopped (refused q place) {f} e t =
          let same = err-once f (record { cause = q; place = place }) t.answered in
          walks-stopped f a' inside (rw same e) t.arrays

      pub walks-on : {m' : Masks} → Turns book found.at m a (Ok m') a' → Reading book a' r' m'
      walks-on t = by_kept (record_at currencies (tested m.curved a) book r.at) refl (rw here.at-is at t)

      pub walks-off : {f : Fault} → Turns book found.at m a (Err f) a' → Walks book (Err f) a'
      walks-off t = by_stopped (record_at currencies (tested m.curved a) book r.at) refl (rw here.at-is at t)
