use Rattle.std.proofs.Common.{◌+◌, length, refl}
use Rattle.nl_tree.specs.declared.overlay.FileBlocks.{FileBlocks}
use Rattle.nl_tree.proofs.FilePages.{wrote, wrote_file}
use Rattle.nl_tree.proofs.overlay.Changed.put_pages.Goals as goal

pub returns-in-File-clause-written : goal.returns-in-File-clause-written
returns-in-File-clause-written c = λ base was blocks shows.
    let new : FileBlocks =
    record { size = c.args.size; cut = c.put_all.new.self.cut; pages = c.put_all.new.self.pages } in
    wrote c.args.self.now c.in-File.file new base was c.args.first
    (c.args.first + length c.args.pages.items) c.args.size blocks
    c.args.pages.items c.in-File.is c.put_all.ensures.cut refl c.put_all.ensures.blocks shows

pub returns-in-File-clause-file : goal.returns-in-File-clause-file
returns-in-File-clause-file c = λ base was blocks shows.
    let new : FileBlocks =
    record { size = c.args.size; cut = c.put_all.new.self.cut; pages = c.put_all.new.self.pages } in
    wrote_file c.args.self.now c.in-File.file new base was c.args.first
    (c.args.first + length c.args.pages.items) c.args.size blocks
    c.args.pages.items c.in-File.is c.put_all.ensures.cut refl c.put_all.ensures.blocks shows
