-- `load`: refused in the walk, a currency without its curve, or all kept.
use Rattle.std.proofs.lemmas.Result.{err_from_is_err_and}
use Rattle.load.proofs.LoadLaws.{load-refused, load-missing, load-all}
use Rattle.load.proofs.load.Goals as goal

pub returns-in_err-masks-clause-loads : goal.returns-in_err-masks-clause-loads
returns-in_err-masks-clause-loads c =
    let told = err_from_is_err_and c.from_residual.result c.from_residual.ensures.1 in
    rw (told.1, told.2) (load-refused _ c.walk.ensures.walks _ c.in_err-masks.was)

pub returns-in-Some-clause-loads : goal.returns-in-Some-clause-loads
returns-in-Some-clause-loads c = load-missing _ c.walk.ensures.walks _ c.in_ok-masks.was c.in-Some.ensures

pub returns-in-None-clause-loads : goal.returns-in-None-clause-loads
returns-in-None-clause-loads c = load-all _ c.walk.ensures.walks _ c.in_ok-masks.was c.in-None.ensures
