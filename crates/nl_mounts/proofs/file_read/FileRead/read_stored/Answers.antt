use Rattle.nl_tree.specs.Held.{held_block}
use Rattle.nl_mounts.proofs.Parts.{more_read}
use Rattle.nl_mounts.proofs.file_read.FileRead.read_stored.Goals as goal

pub returns : goal.returns
returns g c = λ held h were.
    more_read c.args.into.now c.read_bytes.new.into c.args.from c.args.to c.requires.within c.requires.room
    c.read_bytes.auto.into
    (held_block (held c.args.self.now.file.now.inode)) c.args.self.now.offset
    (c.read_bytes.ensures held h) were
