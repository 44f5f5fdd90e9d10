use Rattle.nlvol.proofs.SessionWorlds.{volumes_follow}
use Rattle.nlvol.proofs.SharedWorldsEvents.{kept_beside, new_beside}
use Rattle.nlvol.proofs.laws.shared_volumes_follow_worlds.Goals as goal

pub returns-clause-new : goal.returns-clause-new
returns-clause-new c = new_beside

pub returns-clause-kept : goal.returns-clause-kept
returns-clause-kept c = kept_beside

pub returns-clause-follow : goal.returns-clause-follow
returns-clause-follow c = volumes_follow (record {
  copies = c.copies_stay.ensures.same;
  mounts = c.mounts_stay.ensures.stay;
  numbers = c.mounts_stay.ensures.new;
  leads = c.locked_runs_lead_on.ensures;
})
