-- `vorlegan_widen`: what `widen` answers, in numbers.
use Rattle.face.proofs.FaceLaws.{faced-widening}
use Rattle.face.proofs.widening.vorlegan_widen.Goals as goal

pub returns : goal.returns
returns c =
    let promised = c.widen.ensures in
    record { faces_widening = faced-widening _ promised.widens c.tell.ensures; as_fresh = promised.as_fresh }
