-- What is loaded: the walk's end, and then 15 by the masks.
use Prim.Native.Nat.{ℕ, suc}
use mathlib.Core.List.{List}
use mathlib.Core.Path.{◌≡◌, sym, ap, ◌∙◌}
use native.Mathlib.Omega.{arith}
use borrow.Author.Tests.{le-leb}
use Rattle.std.specs.Prelude.{Some, None, Result, Ok, Err}
use Rattle.laws.specs.Tests.{first}
use Rattle.paper.specs.declared.Refusal.TheVariants.{NoCurve}
use Rattle.paper.specs.declared.Fault.{Fault}
use Rattle.paper.specs.Refusals.{Checked, refused, ◌>>=◌, unless, fault}
use Rattle.paper.specs.Records.{Record, currencies}
use Rattle.paper.specs.TurnedDown.{lacks_curve}
use Rattle.paper.specs.Book.{covered}
use Rattle.arrays.specs.declared.masks.Masks.{Masks}
use Rattle.arrays.specs.Masks.{lowest_missing, missing_in}
use Rattle.arrays.specs.Arrays.{Arrays, arrays_of}
use Rattle.arrays.proofs.Sets.{MasksOf, missing-found, missing-none, some-missing, none-is-missing}
use Rattle.load.specs.Walk.{kept_in, AllKept, Walks}
use Rattle.load.specs.Load.{of_records, Loads}

kept-once : {m n : ℕ} → ◌≡◌ {A = Result ℕ Fault} (Ok m) (Ok n) → m ≡ n
kept-once e = cc

refused-once : {f g : Fault} → ◌≡◌ {A = Result ℕ Fault} (Err f) (Err g) → f ≡ g
refused-once e = cc

never : {B : Type 0} {m : ℕ} {f : Fault} → ◌≡◌ {A = Result ℕ Fault} (Ok m) (Err f) → B
never e = let z : ◌≡◌ {A = ℕ} 0 1 = cc in absurd (omega arith)

-- refused for a cause at a place, whichever part of 01 says so
turned_down-loads : (book : List ℕ) (f : Fault) (a : Arrays) → a ≡ arrays_of (kept_in book) → of_records book ≡ refused f.cause f.place → Loads book (Err f) a
turned_down-loads book f a holds e = record {
  arrays = holds;
  all = λ curves u. never (sym u);
  stopped = λ g u. e ∙ ap (λ (h : Fault). refused h.cause h.place) (refused-once u);
}

module _ (book : List ℕ) {answer : _} {a : Arrays} (w : Walks book answer a) where
  pub load-refused : (f : Fault) → answer ≡ Err f → Loads book (Err f) a
  unfolding ◌>>=◌
  load-refused f e = turned_down-loads book f a w.arrays (ap (λ (x : Checked (List Record)). x >>= covered currencies) (w.stopped f e))

  module _ (m : Masks) (e : answer ≡ Ok m) where
    kept-all : AllKept book m
    kept-all = w.all m e

    abbrev sets : MasksOf m (kept_in book)
    sets = record { used-is = kept-all.used-is; curved-is = kept-all.curved-is }

    -- 15
    pub load-missing : {missing : ℕ} → Some missing ≡ missing_in m → Loads book (Err (fault NoCurve missing)) a
    unfolding ◌>>=◌ covered unless
    load-missing there =
        let lowest = some-missing m there in
        let found : first (lacks_curve (kept_in book)) 1 currencies ≡ lowest_missing m = missing-found m (kept_in book) sets lowest.1 in
        turned_down-loads book _ a w.arrays (rw (kept-all.walked, found, lowest.0, le-leb _ currencies lowest.1))

    pub load-all : None ≡ missing_in m → Loads book (Ok m.curved) a
    unfolding ◌>>=◌ covered unless
    load-all nowhere =
        let k = kept-all in
        let none : first (lacks_curve (kept_in book)) 1 currencies ≡ suc currencies = missing-none m (kept_in book) sets (none-is-missing m nowhere) in
        record {
          arrays = w.arrays;
          all = λ curves u. record {
            loaded = rw (k.walked, none);
            curved-is = rw (kept-once (sym u)) k.curved-is;
          };
          stopped = λ f u. never u;
        }
