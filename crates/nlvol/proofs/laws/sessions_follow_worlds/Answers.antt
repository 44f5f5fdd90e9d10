use Rattle.nlvol.proofs.SessionWorlds.{sessions_follow}
use Rattle.nlvol.proofs.laws.sessions_follow_worlds.Goals as goal

pub returns : goal.returns
returns c = sessions_follow c.shared_volumes_follow_worlds.ensures.follow
