use Rattle.std.proofs.Common.{ℕ, List, refl, sym, subst}
use Rattle.std.proofs.lemmas.Result.{IfOk-from_err, IfOk-weaker, err_from_is_err_and}
use Rattle.nl_types.specs.Blocks.Roots.{Pages, page_at, pages_of}
use Rattle.nl_layout.specs.Root.{root_of}
use Rattle.nl_vstore.specs.Stores.{content_in}
use Rattle.nl_blocktree.specs.declared.change.BlockChange.{BlockChange}
use Rattle.nl_blocktree.specs.Changed.{IndexesAreInRange, IndexesAscend}
use Rattle.nl_blocktree.specs.Putting.{PutsAll}
use Rattle.nl_ifile.specs.Inodes.{IsInodeFile, inode_at}
use Rattle.nl_ifile.specs.Changing.{AreBlockChanges}
use Rattle.nl_ifile.proofs.NewFile.{puts-inodes}
use Rattle.nl_ifile.proofs.put.put_inodes.Goals as goal

pub changed_blocks-requires-clause-inodes : goal.changed_blocks-requires-clause-inodes
changed_blocks-requires-clause-inodes g c =
    subst (λ (pages : Pages). IsInodeFile pages (root_of c.args.root))
    (sym (g.met.V.Vstore.reads_pages c.args.store.now)) c.requires.inodes

pub changed_blocks-requires-clause-ascending : goal.changed_blocks-requires-clause-ascending
changed_blocks-requires-clause-ascending g c = c.requires.ascending

pub changed_blocks-requires-clause-in_range : goal.changed_blocks-requires-clause-in_range
changed_blocks-requires-clause-in_range g c = c.requires.in_range

pub put_all-requires-clause-file : goal.put_all-requires-clause-file
put_all-requires-clause-file g c = c.requires.file

pub put_all-requires-clause-ascending : goal.put_all-requires-clause-ascending
put_all-requires-clause-ascending g c =
    subst (λ (blocks : List BlockChange). IndexesAscend blocks)
    (sym c.deref.ensures.value) c.in_ok-blocks.ensures.ok.ascending

pub put_all-requires-clause-in_range : goal.put_all-requires-clause-in_range
put_all-requires-clause-in_range g c =
    subst (λ (blocks : List BlockChange). IndexesAreInRange blocks)
    (sym c.deref.ensures.value) c.in_ok-blocks.ensures.ok.in_range

pub returns-clause-ok : goal.returns-clause-ok
returns-clause-ok g c =
    let root = root_of c.args.root in
    let changes = c.args.changes.now in
    let stored = content_in (g.V.Vstore.store c.args.store.now) in
    let are : AreBlockChanges (page_at (pages_of stored) root)
    (inode_at (pages_of stored) root) changes c.in_ok-blocks.blocks.items =
    subst (λ (pages : Pages).
    AreBlockChanges (page_at pages root) (inode_at pages root) changes c.in_ok-blocks.blocks.items)
    (g.met.V.Vstore.reads_pages c.args.store.now) c.in_ok-blocks.ensures.ok in
    IfOk-weaker c.put_all.result _ _
    (λ new puts.
    puts-inodes stored root (root_of new) changes c.deref.result.now c.args.batch.now c.put_all.new.batch
    (subst (λ (blocks : List BlockChange).
    AreBlockChanges (page_at (pages_of stored) root) (inode_at (pages_of stored) root) changes blocks)
    (sym c.deref.ensures.value) are)
    (subst (λ (inode : ℕ).
    PutsAll stored inode root (root_of new) c.deref.result.now c.args.batch.now c.put_all.new.batch)
    c.new.ensures puts))
    c.put_all.ensures.ok

pub returns-clause-fits : goal.returns-clause-fits
returns-clause-fits g c = c.put_all.ensures.fits

pub returns-clause-same : goal.returns-clause-same
returns-clause-same g c = c.put_all.ensures.same

pub returns-clause-errors : goal.returns-clause-errors
returns-clause-errors g c = c.put_all.ensures.errors

pub returns-in_err-blocks-clause-ok : goal.returns-in_err-blocks-clause-ok
returns-in_err-blocks-clause-ok g c = IfOk-from_err c.from_residual.result _ c.from_residual.ensures.0

pub returns-in_err-blocks-clause-fits : goal.returns-in_err-blocks-clause-fits
returns-in_err-blocks-clause-fits g c = IfOk-from_err c.from_residual.result _ c.from_residual.ensures.0

pub returns-in_err-blocks-clause-errors : goal.returns-in_err-blocks-clause-errors
returns-in_err-blocks-clause-errors g c =
    let p = err_from_is_err_and c.from_residual.result c.from_residual.ensures.1 in
    rw (p.1, p.2) c.in_err-blocks.ensures.err

pub returns-in_err-blocks-clause-same : goal.returns-in_err-blocks-clause-same
returns-in_err-blocks-clause-same g c =
    let p = err_from_is_err_and c.from_residual.result c.from_residual.ensures.1 in
    rw p.1 refl
