use Rattle.nlvol.proofs.SavedVolumes.{runs_come_back}
use Rattle.nlvol.proofs.laws.saved_runs_come_back.Goals as goal

pub returns : goal.returns
returns c = runs_come_back c.saved_volumes_come_back.ensures
