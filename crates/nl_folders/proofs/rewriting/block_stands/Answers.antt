use Rattle.std.proofs.Common.{◌∙◌}
use Rattle.nl_folders.proofs.FileBytes.{block_stands_by}
use Rattle.nl_folders.proofs.rewriting.block_stands.Goals as goal

pub returns : goal.returns
returns c =
    c.has_bytes.ensures
    ∙ block_stands_by c.args.old.now c.args.new.now c.args.block c.min.result c.place_of-end.result c.requires
    c.min.ensures c.place_of-end.ensures
