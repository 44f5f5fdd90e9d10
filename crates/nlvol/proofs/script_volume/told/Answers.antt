use Rattle.nlvol.proofs.SharedReads.{told_by}
use Rattle.nlvol.proofs.script_volume.told.Goals as goal

pub returns : goal.returns
returns g c t tree = told_by t c.args.ask.now c.ask.result (c.ask.ensures.told t tree)
