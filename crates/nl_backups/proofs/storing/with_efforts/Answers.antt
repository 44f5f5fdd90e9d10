use Rattle.std.proofs.lemmas.Result.{IfOk-weaker}
use Rattle.nl_backups.proofs.storing.with_efforts.Goals as goal

pub returns-in_default-3-clause-stored : goal.returns-in_default-3-clause-stored
returns-in_default-3-clause-stored c =
    IfOk-weaker c.store_once.result _ _ (λ done of_each opened. of_each c.args.image.now opened)
    c.store_once.ensures.stored
