use Rattle.std.proofs.Common.{◌+◌, ◌-◌, arith}
use Rattle.nl_mounts.proofs.FileParts.{part_more}
use Rattle.nl_mounts.proofs.files.FileAt.read_part.Goals as goal

pub returns-clause-more : goal.returns-clause-more
returns-clause-more g c =
    part_more c.args.self.now.mount c.args.self.now.path c.args.offset c.args.count c.args.len
    (c.args.count + c.args.len - c.args.count) c.args.into.now c.read_apart.new.into c.read_apart.result
    (omega arith) c.requires.room c.read_apart.ensures.told
