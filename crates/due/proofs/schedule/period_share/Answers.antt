use Rattle.due.proofs.Shares.{share-most, by-share}
use Rattle.due.proofs.schedule.period_share.Goals as goal

pub returns : goal.returns
returns c =
    (share-most c.args.period c.requires.0 c.requires.1, by-share c.args.period c.requires.0 c.requires.1)
