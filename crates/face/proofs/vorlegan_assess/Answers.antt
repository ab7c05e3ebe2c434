-- `vorlegan_assess`: what `assess` answers, in numbers.
use Rattle.face.proofs.FaceLaws.{faced}
use Rattle.face.proofs.vorlegan_assess.Goals as goal

pub returns : goal.returns
returns c =
    let promised = c.assess.ensures in
    record { faces = faced _ promised.assesses.answers c.tell.ensures; truthful = promised.truthful }
