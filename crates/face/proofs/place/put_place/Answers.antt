-- `put_place`: a room of no cell stays as it is.
use mathlib.Core.Path.{sym}
use native.Mathlib.Omega.{arith}
use Rattle.face.proofs.FaceLaws.{no_cell}
use Rattle.face.proofs.place.put_place.Goals as goal

pub returns-else-place-gt0 : goal.returns-else-place-gt0
returns-else-place-gt0 c = sym (no_cell _ c.args.place.now (omega arith))
