use Rattle.nlvol.proofs.SessionWorlds.{runs_follow}
use Rattle.nlvol.proofs.laws.runs_follow_worlds.Goals as goal

pub returns : goal.returns
returns g c = runs_follow c.sessions_follow_worlds.ensures
