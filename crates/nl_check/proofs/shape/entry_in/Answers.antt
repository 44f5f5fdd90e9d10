use Rattle.std.proofs.Common.{◌+◌, ◌-◌, ◌*◌, arith}
use Rattle.nl_check.proofs.InodeBlocks.{read-entry}
use Rattle.nl_check.proofs.shape.entry_in.Goals as goal

pub returns : goal.returns
returns c =
    read-entry c.args.page.now _ c.args.place
    (c.args.place * 128 + 128 - c.args.place * 128) c.read.result c.bytes.ensures
    (omega arith) c.read.ensures.found c.read.ensures.only
