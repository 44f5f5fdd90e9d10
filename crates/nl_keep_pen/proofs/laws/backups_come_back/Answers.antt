use Rattle.nl_keep_pen.proofs.Runs.{backups_come_back}
use Rattle.nl_keep_pen.proofs.laws.backups_come_back.Goals as goal

pub returns : goal.returns
returns c = backups_come_back c.images_have_the_present_mark.ensures
