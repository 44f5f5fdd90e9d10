use Rattle.std.proofs.Common.{rules}
use Rattle.nl_keep_pen.proofs.KnownFiles.{are_same_files, known_files}
use Rattle.nl_keep_pen.proofs.comparing.SameFiles.new.Goals as goal

pub invariant_of-result : goal.invariant_of-result
invariant_of-result g c =
    record { files = known_files c.args.volume.now.pen c.means_a_world.ensures c.args.old c.args.new }

pub returns : goal.returns
returns g c =
    are_same_files c.args.volume.now.pen c.means_a_world.ensures c.args.old c.args.new _ (search rules)
