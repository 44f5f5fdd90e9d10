use Rattle.std.proofs.Common.{◌≡◌, ◌≢◌, Some, true, false, refl, sym, ap, ◌∙◌}
use Rattle.std.proofs.Math.ListN.{replicate}
use Rattle.std.proofs.lemmas.Slice.Eq.{slice_eq-Decides}
use Rattle.std.proofs.lemmas.Bool.Decides.{Decides-eqb}
use Rattle.nl_layout.specs.Root.{root_of}
use Rattle.nl_ifile.specs.Inodes.{in_block, inode_at}
use Rattle.nl_ifile.specs.Changing.{inodes_with}
use Rattle.nl_ifile.proofs.BlockBytes.{block_for-others, block_for-zeros}
use Rattle.nl_ifile.proofs.changed_block.changed_block.Goals as goal

pub returns-then-eq-clause-page : goal.returns-then-eq-clause-page
returns-then-eq-clause-page g c =
    let written =
    c.write_inodes.ensures.written
    (inode_at (g.V.VRead.pages c.args.cursor.now.store.now) (root_of c.args.cursor.now.root))
    c.args.index c.requires.inside c.old_bytes-bytes.ensures.bytes in
    let zeros : c.write_inodes.new.bytes ≡ replicate 1024 0 =
    (slice_eq-Decides Decides-eqb _ _ _ c.if-eq.ensures).0 refl in
    sym (block_for-zeros
    (in_block (inodes_with c.args.changes.now
    (inode_at (g.V.VRead.pages c.args.cursor.now.store.now) (root_of c.args.cursor.now.root)))
    c.args.index)
    (sym written ∙ zeros))

pub returns-clause-page : goal.returns-clause-page
returns-clause-page g c =
    let written =
    c.write_inodes.ensures.written
    (inode_at (g.V.VRead.pages c.args.cursor.now.store.now) (root_of c.args.cursor.now.root))
    c.args.index c.requires.inside c.old_bytes-bytes.ensures.bytes in
    let other : c.write_inodes.new.bytes ≢ replicate 1024 0 = λ e.
    let no : false ≡ true = (slice_eq-Decides Decides-eqb _ _ _ c.if-eq.ensures).1 e in
    cc in
    ap Some (c.in_ok-page.ensures ∙ (c.new.ensures ∙ written))
    ∙ sym (block_for-others
    (in_block (inodes_with c.args.changes.now
    (inode_at (g.V.VRead.pages c.args.cursor.now.store.now) (root_of c.args.cursor.now.root)))
    c.args.index)
    (λ e. other (written ∙ e)))
