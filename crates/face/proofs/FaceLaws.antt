-- The face: the answers of `assess` and of `widen` as a number and a place.
use Prim.Native.Nat.{ℕ, ◌≤◌}
use mathlib.Core.List.{List, [], ◌∷◌}
use mathlib.Core.Path.{◌≡◌, refl}
use native.Mathlib.Omega.{arith}
use lib.IntN.{ℤ}
use lib.ListN.{length}
use Rattle.std.specs.Prelude.{Result, Ok, Err}
use Rattle.paper.specs.declared.Fault.{Fault}
use Rattle.paper.specs.Refusals.{Checked}
use Rattle.paper.specs.Records.{Record}
use Rattle.book.specs.Assessed as Assessed
use Rattle.book.specs.Assessed.{Answers}
use Rattle.stored.specs.Stored as Stored
use Rattle.stored.specs.Stored.{Widens}
use Rattle.face.specs.Face.{told, with_place, Tells, Faced, WidenedFace}

pub no_cell : (told-place : ℕ) (room : List ℕ) → length room ≤ 0 → with_place told-place room ≡ room
no_cell told-place [] h = refl
no_cell told-place (x ∷ room) h = absurd (omega arith)

-- the answer of `assess`, and that of `widen`, in numbers
module _ {number : ℕ} {place place' : List ℕ} where
  pub faced : {o : Checked (List Record)} {T : ℕ} {report ledger report' ledger' : List ℤ} (a : Result ℕ Fault) → Answers o T report ledger a report' ledger' → Tells (told a) place number place'
      → Faced o T report ledger place number report' ledger' place'
  unfolding told Assessed.told
  faced (Ok curves) p t = record { tells = rw p.says at t; report-is = p.report-is; ledger-is = p.ledger-is }
  faced (Err f) p t = record { tells = rw p.says at t; report-is = p.report-is; ledger-is = p.ledger-is }

  pub faced-widening : {stored report report' : List ℤ} (a : Result (Unit {0}) Fault) → Widens stored report a report' → Tells (told a) place number place' → WidenedFace stored report place number report' place'
  unfolding told Stored.told
  faced-widening (Ok done) p t = record { tells = rw p.says at t; report-is = p.report-is }
  faced-widening (Err f) p t = record { tells = rw p.says at t; report-is = p.report-is }
