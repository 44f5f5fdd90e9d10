use Rattle.std.proofs.Common.{true}
use Rattle.nlvol.proofs.CleanedVolumes.{cleanings_leave_nothing_dead}
use Rattle.nlvol.proofs.laws.cleanings_leave_nothing_dead.Goals as goal

pub returns : goal.returns
returns c = cleanings_leave_nothing_dead (c.rounds_leave_nothing_dead.ensures true)
