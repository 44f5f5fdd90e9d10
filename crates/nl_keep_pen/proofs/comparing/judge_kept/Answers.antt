use Rattle.nl_keep_pen.proofs.KnownFiles.{told_is_kept, told_is_missing}
use Rattle.nl_keep_pen.proofs.comparing.judge_kept.Goals as goal

pub returns-in-Ok-clause-kept : goal.returns-in-Ok-clause-kept
returns-in-Ok-clause-kept g c w means =
    told_is_kept w c.args.number c.in-Ok.field-0 (c.in-Ok.ensures.world w means)

pub returns-in-Err-clause-missing : goal.returns-in-Err-clause-missing
returns-in-Err-clause-missing g c w means =
    told_is_missing w c.args.number c.in-Err.error (c.in-Err.ensures.world w means)
