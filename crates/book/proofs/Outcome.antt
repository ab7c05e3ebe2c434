-- What the entry function answers, way out by way out.
use Prim.Native.Nat.{ℕ, suc, ◌*◌, ◌≤◌, ◌<◌}
use mathlib.Core.Bool.{Bool, true, false, not, ◌&&◌, ◌||◌}
use mathlib.Core.List.{List, [], ◌++◌, append-nil}
use mathlib.Core.Path.{◌≡◌, refl, sym, ap, ◌∙◌}
use native.Mathlib.Omega.{arith}
use borrow.Author.Tests.{leb-true, leb-false, lt-ltb, le-ltb, ltb-false, not-false}
use lib.IntN.{ℤ, pos}
use lib.ListN.{length, take, drop, replicate, drop_of_length-le, take-append-drop}
use lib.Seq.{length-take-le}
use Rattle.std.specs.Prelude.{Result, Ok, Err, if◌then◌else◌}
use Rattle.laws.specs.Tests.{◌below◌, ◌up_to◌, first}
use Rattle.laws.proofs.Tests.{first_to}
use Rattle.paper.specs.declared.Refusal.{Refusal}
use Rattle.paper.specs.declared.Refusal.TheVariants.{BadCapital, BookTooLong, RoomTooSmall}
use Rattle.paper.specs.declared.Fault.{Fault}
use Rattle.paper.specs.Refusals.{number_of, Checked, accepted, refused, ◌>>◌, unless, answer_of}
use Rattle.paper.specs.Records.{Record, currencies}
use Rattle.paper.specs.Flow.{scenarios, shocked}
use Rattle.paper.specs.Ledger.{totals, curved, cells, figures, ledger_of}
use Rattle.paper.specs.TurnedDown.{lacks_curve, bad_capital, longest_book, book_too_long, room_too_small}
use Rattle.paper.specs.Verdict.{report_of}
use Rattle.paper.specs.Book.{walk, covered, outcome, touches_nothing, report_after, ledger_after}
use Rattle.paper.proofs.Checks.{Known, known_of, cause-of, unless-known, through}
use Rattle.paper.proofs.Walk.{Good, records-good}
use Rattle.arrays.specs.Masks.{curved_by, MaskOf}
use Rattle.arrays.specs.Rooms.{totals_by}
use Rattle.arrays.specs.Arrays.{Arrays, arrays_as, arrays_of, Sized}
use Rattle.arrays.proofs.Bounds.{arrays-sized}
use Rattle.arrays.proofs.More.{nothing-kept}
use Rattle.valuation.specs.Bounds.{Bounds}
use Rattle.valuation.proofs.KeptRecords.{kept-bounds, kept-report}
use Rattle.load.specs.Walk.{kept_in}
use Rattle.load.specs.Load.{of_records, AllLoaded}
use Rattle.book.specs.Assessed.{told, without_place, Answers, Assesses}

-- ---- by the outcome

-- a refusal tells of no curve
no-curves : {o : Checked (List Record)} (f : Fault) (curves : ℕ) (kept : List Record) → ◌≡◌ {A = Result ℕ Fault} (Err f) (Ok curves) → o ≡ accepted kept → MaskOf curves (curved kept)
no-curves f curves kept e also = let z : ◌≡◌ {A = ℕ} 0 1 = cc in absurd (omega arith)

-- a refusal that touches nothing
pub untouched : {o : Checked (List Record)} {T : ℕ} {report ledger : List ℤ} (q : Refusal)
    → o ≡ refused q 0 → touches_nothing q ≡ true → Answers o T report ledger (Err (without_place q)) report ledger
unfolding told answer_of report_after ledger_after
untouched q e t = record { says = rw e; curves-are = no-curves (record { cause = q; place = 0 }); report-is = rw e; ledger-is = rw (e, t) }

-- a refusal that clears a ledger of just the room
cleared : {o : Checked (List Record)} {T : ℕ} {report ledger : List ℤ} (full ledger' : List ℤ) (f : Fault)
    → o ≡ refused f.cause f.place → touches_nothing f.cause ≡ false → length ledger ≡ cells currencies → length full ≡ cells currencies → ledger' ≡ replicate (length full) (pos 0)
    → Answers o T report ledger (Err f) report ledger'
unfolding told answer_of report_after ledger_after
cleared {ledger = ledger} full ledger' f e t long same is-clear = record {
  says = rw e;
  curves-are = no-curves f;
  report-is = rw e;
  ledger-is = is-clear ∙ rw (e, t, same, drop_of_length-le ledger {i = cells currencies} (omega arith), append-nil (replicate (cells currencies) (pos 0)));
}

one-mask : (curves curves' : ℕ) (kept kept' : List Record) → ◌≡◌ {A = Result ℕ Fault} (Ok curves) (Ok curves') → ◌≡◌ {A = Checked (List Record)} (accepted kept) (accepted kept')
    → MaskOf curves (curved kept) → MaskOf curves' (curved kept')
one-mask curves curves' kept kept' e f p =
    let mask : curves ≡ curves' = cc in
    let same : kept ≡ kept' = cc in
    rw (sym mask, sym same) p

-- ---- before the first record

-- the ledger is cleared, and the other arrays are nil
pub nothing_yet : (ledger before : List ℤ) → length before ≡ cells currencies → ledger ≡ replicate (length before) (pos 0)
    → arrays_as ledger (replicate (cells currencies) (pos 0)) (replicate (shocked * currencies) (pos 0)) (replicate (scenarios * currencies) 0) (replicate (shocked * currencies) 0) ≡ arrays_of []
nothing_yet ledger before long e = rw (e, long) (sym nothing-kept)

-- ---- what is known of the records of a book that is loaded

records-covered : (book : List ℕ) → Known (λ kept. first (lacks_curve kept) 1 currencies ≡ suc currencies) (of_records book)
unfolding covered
records-covered book =
    through (walk currencies book) (λ kept. unless-known _ _ _ kept tt (λ t.
    let above : currencies < first (lacks_curve kept) 1 currencies = leb-false (first (lacks_curve kept) 1 currencies) currencies t in
    omega (arith, first_to (lacks_curve kept) 1 currencies)))

-- the arrays then
module _ (book : List ℕ) (curves : ℕ) (a : Arrays) (holds : a ≡ arrays_of (kept_in book)) (all : AllLoaded book curves) where
  pub good : Good (kept_in book)
  good = known_of (records-good currencies book) (kept_in book) all.loaded

  pub all-sized : Sized currencies a
  all-sized = rw holds (arrays-sized (kept_in book) good)

  pub bounds-hold : Bounds (totals_by a.ledger a.add_ons a.rates) (curved_by curves)
  bounds-hold = rw holds (kept-bounds (kept_in book) good curves all.curved-is (known_of (records-covered book) (kept_in book) all.loaded))

module _ (book : List ℕ) (T : ℕ) (report ledger : List ℤ) (ledger-long : length ledger ≡ cells currencies) where
  pub answers-refused : (full ledger' : List ℤ) (f : Fault) → of_records book ≡ refused f.cause f.place → length full ≡ cells currencies → ledger' ≡ replicate (length full) (pos 0)
      → Answers (of_records book) T report ledger (Err f) report ledger'
  answers-refused full ledger' f e same is-clear = cleared full ledger' f e (cause-of (records-good currencies book) f.cause f.place e) ledger-long same is-clear

  module _ (curves : ℕ) (a : Arrays) (holds : a ≡ arrays_of (kept_in book)) (all : AllLoaded book curves) where
    pub answers-reported : length report ≡ figures currencies
        → Answers (of_records book) T report ledger (Ok curves) (report_of currencies (totals_by a.ledger a.add_ons a.rates) T) a.ledger
    unfolding told answer_of report_after ledger_after arrays_of
    answers-reported report-long =
        let accepts : of_records book ≡ accepted (kept_in book) = all.loaded in
        record {
          says = rw accepts;
          curves-are = λ curves' kept same also. one-mask curves curves' (kept_in book) kept same (sym accepts ∙ also) all.curved-is;
          report-is = rw (accepts, holds, kept-report (kept_in book) T, drop_of_length-le report {i = figures currencies} (omega arith), append-nil (report_of currencies (totals (kept_in book)) T));
          ledger-is = rw (accepts, holds, drop_of_length-le ledger {i = cells currencies} (omega arith), append-nil (ledger_of currencies (totals (kept_in book)).cell));
        }

-- ---- by the book, the capital and the rooms

none_left : (n : ℕ) (l : List ℤ) → n ≤ length l → drop n (take n l) ≡ []
none_left n l h = let long = length-take-le n l h in drop_of_length-le (take n l) {i = n} (omega arith)

neither : (a b : Bool) → a || b ≡ false → (a ≡ false) × (b ≡ false)
neither true b e = (e, by_contra e)
  where
    by_contra : true ≡ false → b ≡ false
    by_contra z = let y : ◌≡◌ {A = ℕ} 0 1 = cc in absurd (omega arith)
neither false b e = (refl, e)

both : (a b : Bool) → a && b ≡ true → (a ≡ true) × (b ≡ true)
both true b e = (refl, e)
both false b e = let y : ◌≡◌ {A = ℕ} 0 1 = cc in absurd (omega arith)

pub small-report : (n k : ℕ) → n < figures currencies → room_too_small currencies n k ≡ true
unfolding room_too_small
small-report n k h = rw (lt-ltb n (figures currencies) h)

pub small-ledger : (n k : ℕ) → figures currencies ≤ n → room_too_small currencies n k ≡ (k below cells currencies)
unfolding room_too_small
small-ledger n k h = rw (le-ltb n (figures currencies) h)

pub capital-in : (T : ℕ) (b : Bool) → b ≡ (1 up_to T && T up_to 1_000_000_000_000) → not b ≡ bad_capital T
unfolding bad_capital
capital-in T b e = ap not e

pub room-enough : (n k : ℕ) → room_too_small currencies n k ≡ false → (figures currencies ≤ n) × (cells currencies ≤ k)
unfolding room_too_small
room-enough n k e =
    let f = neither (n below figures currencies) (k below cells currencies) e in (ltb-false n (figures currencies) f.0, ltb-false k (cells currencies) f.1)

pub capital-fits : (T : ℕ) → bad_capital T ≡ false → (1 ≤ T) × (T ≤ 1_000_000_000_000)
unfolding bad_capital
capital-fits T e = let f = both (1 up_to T) (T up_to 1_000_000_000_000) (not-false _ e) in (leb-true 1 T f.0, leb-true T 1_000_000_000_000 f.1)

module _ (book : List ℕ) (T : ℕ) (report ledger : List ℤ) where
  pub room-refused : room_too_small currencies (length report) (length ledger) ≡ true → Assesses book T report ledger (Err (without_place RoomTooSmall)) report ledger
  unfolding outcome ◌>>◌ unless touches_nothing number_of
  room-refused h = record { answers = untouched RoomTooSmall (rw h) refl }

  module _ (r : room_too_small currencies (length report) (length ledger) ≡ false) where
    pub book-refused : longest_book < length book → Assesses book T report ledger (Err (without_place BookTooLong)) report ledger
    unfolding outcome ◌>>◌ unless book_too_long touches_nothing number_of
    book-refused h = record { answers = untouched BookTooLong (rw (r, lt-ltb _ _ h)) refl }

    module _ (b : length book ≤ longest_book) where
      pub capital-refused : bad_capital T ≡ true → Assesses book T report ledger (Err (without_place BadCapital)) report ledger
      unfolding outcome ◌>>◌ unless book_too_long touches_nothing number_of
      capital-refused h = record { answers = untouched BadCapital (rw (r, le-ltb _ _ b, h)) refl }

      left : bad_capital T ≡ false → outcome currencies book T (length report) (length ledger) ≡ of_records book
      unfolding outcome ◌>>◌ unless book_too_long
      left h = rw (r, le-ltb _ _ b, h)

      -- the rooms' further cells stay
      wider : (o : Checked (List Record)) (a : Result ℕ Fault) (report' ledger' : List ℤ)
          → Answers o T (take (figures currencies) report) (take (cells currencies) ledger) a report' ledger'
          → Answers o T report ledger a (report' ++ drop (figures currencies) report) (ledger' ++ drop (cells currencies) ledger)
      unfolding report_after ledger_after
      wider (accepted kept) a report' ledger' s = record {
        says = s.says;
        curves-are = s.curves-are;
        report-is = rw (s.report-is, none_left (figures currencies) report (room-enough _ _ r).0, append-nil (report_of currencies (totals kept) T));
        ledger-is = rw (s.ledger-is, none_left (cells currencies) ledger (room-enough _ _ r).1, append-nil (ledger_of currencies (totals kept).cell));
      }
      wider (refused q place) a report' ledger' s = record {
        says = s.says;
        curves-are = s.curves-are;
        report-is = rw s.report-is (take-append-drop (figures currencies) report);
        ledger-is = rw s.ledger-is (kept-or-cleared (touches_nothing q));
      }
        where
          kept-or-cleared : (t : Bool) → (if t then take (cells currencies) ledger else (replicate (cells currencies) (pos 0) ++ drop (cells currencies) (take (cells currencies) ledger))) ++ drop (cells currencies) ledger ≡ (if t then ledger else (replicate (cells currencies) (pos 0) ++ drop (cells currencies) ledger))
          kept-or-cleared true = take-append-drop (cells currencies) ledger
          kept-or-cleared false =
              ap (λ (x : List ℤ). (replicate (cells currencies) (pos 0) ++ x) ++ drop (cells currencies) ledger) (none_left (cells currencies) ledger (room-enough _ _ r).1)
              ∙ ap (λ (x : List ℤ). x ++ drop (cells currencies) ledger) (append-nil (replicate (cells currencies) (pos 0)))

      pub by-records : bad_capital T ≡ false → (a : Result ℕ Fault) (report' ledger' : List ℤ) → Answers (of_records book) T (take (figures currencies) report) (take (cells currencies) ledger) a report' ledger'
          → Assesses book T report ledger a (report' ++ drop (figures currencies) report) (ledger' ++ drop (cells currencies) ledger)
      by-records h a report' ledger' s = record { answers = rw (left h) (wider (of_records book) a report' ledger' s) }
