-- `tell`: nought and place nought, or the number of the cause and its place.
use mathlib.Core.Path.{refl}
use Rattle.face.specs.Face.{number_in, place_in, told}
use Rattle.face.proofs.place.tell.Goals as goal

pub returns-in-Ok : goal.returns-in-Ok
unfolding told number_in place_in
returns-in-Ok g c = rw c.in-Ok.is (record { number_is = refl; place_is = c.put_place.ensures })

pub returns-in-Err : goal.returns-in-Err
unfolding told number_in place_in
returns-in-Err g c = rw c.in-Err.is (record { number_is = c.from.ensures; place_is = c.put_place-in-Err.ensures })
