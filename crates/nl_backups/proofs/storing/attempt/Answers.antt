use Rattle.std.proofs.lemmas.Result.{IfErr-weaker, IfOk-weaker}
use Rattle.nl_backups.proofs.storing.attempt.Goals as goal

pub returns-clause-stored : goal.returns-clause-stored
returns-clause-stored c =
    IfOk-weaker c.store_once.result _ _
    (λ done of_each. of_each c.args.image.now c.in_ok-volume.ensures.opened)
    c.store_once.ensures.stored

pub returns-clause-refused : goal.returns-clause-refused
returns-clause-refused c =
    IfErr-weaker c.store_once.result _ _
    (λ e of_each. of_each c.args.image.now c.in_ok-volume.ensures.opened)
    c.store_once.ensures.refused
