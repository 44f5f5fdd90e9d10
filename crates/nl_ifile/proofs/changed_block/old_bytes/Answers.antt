use Rattle.std.proofs.Common.{ℕ, List, Option, Bor, option_copied, sym, ap, ◌∙◌}
use Rattle.std.proofs.Math.ListN.{replicate}
use Rattle.std.specs.Option.{unwrap_or}
use Rattle.nl_layout.specs.Root.{root_of}
use Rattle.nl_ifile.specs.Inodes.{in_block, inode_at}
use Rattle.nl_ifile.proofs.BlockBytes.{block_for-bytes}
use Rattle.nl_ifile.proofs.changed_block.old_bytes.Goals as goal

pub returns-in-Some-clause-bytes : goal.returns-in-Some-clause-bytes
returns-in-Some-clause-bytes g c =
    c.bytes.ensures
    ∙ (ap (λ (o : Option (Bor (List ℕ))). unwrap_or (option_copied o) (replicate 1024 0)) (sym c.in-Some.is)
    ∙ block_for-bytes
    (in_block (inode_at (g.V.VRead.pages c.args.cursor.now.store.now) (root_of c.args.cursor.now.root))
    c.args.index)
    _
    (c.page_at.ensures.page ∙ c.requires c.args.index))

pub returns-in-None-clause-bytes : goal.returns-in-None-clause-bytes
returns-in-None-clause-bytes g c =
    ap (λ (o : Option (Bor (List ℕ))). unwrap_or (option_copied o) (replicate 1024 0)) (sym c.in-None.is)
    ∙ block_for-bytes
    (in_block (inode_at (g.V.VRead.pages c.args.cursor.now.store.now) (root_of c.args.cursor.now.root))
    c.args.index)
    _
    (c.page_at.ensures.page ∙ c.requires c.args.index)
