-- An input whose book is accepted has a capital and a book within their ranges, and it is the records that are accepted.
use Prim.Native.Nat.{ℕ, ◌≤◌}
use mathlib.Core.Bool.{Bool, true, false}
use mathlib.Core.List.{List}
use mathlib.Core.Path.{◌≡◌, refl}
use native.Mathlib.Omega.{arith}
use borrow.Author.Tests.{ltb-false}
use lib.ListN.{length, drop, length-drop}
use Rattle.std.specs.Prelude.{if◌then◌else◌}
use Rattle.laws.specs.Tests.{◌below◌}
use Rattle.paper.specs.declared.Refusal.TheVariants.{BadCapital, BookTooLong}
use Rattle.paper.specs.Refusals.{accepted, refused}
use Rattle.paper.specs.Records.{Record, currencies}
use Rattle.paper.specs.Ledger.{cells, figures}
use Rattle.paper.specs.TurnedDown.{longest_book}
use Rattle.paper.specs.Book.{outcome}
use Rattle.paper.specs.Program.{capital_in, program_outcome}
use Rattle.paper.proofs.OtherTop.{tested-before}
use Rattle.paper.proofs.Detail.{never}
use Rattle.load.specs.Load.{of_records}
use Rattle.book.proofs.Outcome.{capital-fits}

pub record Accepted (input : List ℕ) (kept : List Record) : Type 0 where
  pub has-capital : 8 ≤ length input
  pub book-fits : length (drop 8 input) ≤ longest_book
  pub capital-fits : (1 ≤ capital_in input) × (capital_in input ≤ 1_000_000_000_000)
  pub records : of_records (drop 8 input) ≡ accepted kept

pub accepted-input : (input : List ℕ) (kept : List Record) → program_outcome currencies input ≡ accepted kept → Accepted input kept
unfolding program_outcome
accepted-input input kept = by (65536 below length input) refl (length input below 8) refl
  where
    by : (long : Bool) → (65536 below length input) ≡ long → (short : Bool) → (length input below 8) ≡ short
        → (if long then refused BookTooLong 0 else if short then refused BadCapital 0 else outcome currencies (drop 8 input) (capital_in input) (figures currencies) (cells currencies)) ≡ accepted kept → Accepted input kept
    by true p short q e = never e
    by false p true q e = never e
    by false p false q e =
        let before = tested-before currencies (drop 8 input) (capital_in input) (figures currencies) (cells currencies) kept e in
        record {
          has-capital = ltb-false (length input) 8 q;
          book-fits = omega (arith, ltb-false 65536 (length input) p, length-drop 8 input);
          capital-fits = capital-fits (capital_in input) before.1;
          records = before.2;
        }
