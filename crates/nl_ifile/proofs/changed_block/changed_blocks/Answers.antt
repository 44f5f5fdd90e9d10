use Rattle.std.proofs.Common.{◌≡◌, ◌-◌, ◌/◌, ◌<◌, ℕ, List, length, get_or, take, drop, refl, sym, subst, ap, ◌∙◌, arith}
use Rattle.std.proofs.lemmas.List.{get_or_default}
use Rattle.std.proofs.lemmas.Result.{IfOk-from_err, err_from_is_err_and}
use Rattle.nl_blocktree.specs.declared.change.BlockChange.{BlockChange}
use Rattle.nl_types.specs.Blocks.Roots.{page_at}
use Rattle.nl_layout.specs.Root.{root_of}
use Rattle.nl_ifile.specs.declared.change.InodeChange.{InodeChange}
use Rattle.nl_ifile.specs.Inodes.{InodeMap, block_for, in_block, inode_at}
use Rattle.nl_ifile.specs.Changing.{AreFirstBlockChanges, inodes_with}
use Rattle.nl_ifile.proofs.BlockChanges.{all-between, ascending-between, block_changes-all, block_changes-more, block_changes-none}
use Rattle.nl_ifile.proofs.changed_block.changed_blocks.Goals as goal

pub loop-start-init : goal.loop-start-init
loop-start-init g c =
    let blocks =
    subst (λ (blocks : List BlockChange).
    AreFirstBlockChanges (page_at (g.V.VRead.pages c.args.store.now) (root_of c.args.root.now))
    (inode_at (g.V.VRead.pages c.args.store.now) (root_of c.args.root.now)) c.args.changes.now 0 blocks)
    (sym c.new-blocks.ensures.items) (block_changes-none _ _ _ c.requires.inodes) in
    record { store = c.new-cursor.ensures.store; root = c.new-cursor.ensures.root; blocks = blocks }

pub end_of_block-end-requires-clause-ascending : goal.end_of_block-end-requires-clause-ascending
end_of_block-end-requires-clause-ascending g c = c.requires.ascending

pub end_of_block-end-requires-clause-inside : goal.end_of_block-end-requires-clause-inside
end_of_block-end-requires-clause-inside g c = c.loop-start-test.true

pub end_of_block-end-requires-clause-first : goal.end_of_block-end-requires-clause-first
end_of_block-end-requires-clause-first g c =
    let item : InodeChange = c.index-changes-start.result in
    λ next.
    ap (λ (x : InodeChange). x.number / 8)
    (get_or_default c.args.changes.now c.loop-start.start next item c.loop-start-test.true)
    ∙ ap (λ (n : ℕ). n / 8) (sym c.get-index.ensures)

pub changed_block-requires-clause-inodes : goal.changed_block-requires-clause-inodes
changed_block-requires-clause-inodes g c =
    rw (c.loop-start.invariant.store, c.loop-start.invariant.root) c.requires.inodes

pub changed_block-requires-clause-ascending : goal.changed_block-requires-clause-ascending
changed_block-requires-clause-ascending g c =
    ascending-between c.args.changes.now c.loop-start.start c.end_of_block-end.result c.requires.ascending

pub changed_block-requires-clause-inside : goal.changed_block-requires-clause-inside
changed_block-requires-clause-inside g c =
    all-between c.args.changes.now c.loop-start.start c.end_of_block-end.result
    (c.get-index.result / 8) c.end_of_block-end.ensures.same

pub returns-clause-ok : goal.returns-clause-ok
returns-clause-ok g c = block_changes-all _ _ _ _ _ c.loop-start.invariant.blocks c.loop-start-test.false

pub returns-in_err-changed_block-clause-err : goal.returns-in_err-changed_block-clause-err
returns-in_err-changed_block-clause-err g c =
    let p = err_from_is_err_and c.from_residual.result c.from_residual.ensures.1 in
    rw (p.1, p.2) c.in_err-changed_block.ensures.err

pub returns-in_err-changed_block-clause-ok : goal.returns-in_err-changed_block-clause-ok
returns-in_err-changed_block-clause-ok g c = IfOk-from_err c.from_residual.result _ c.from_residual.ensures.0

pub returns-in_err-push-clause-ok : goal.returns-in_err-push-clause-ok
returns-in_err-push-clause-ok g c =
    IfOk-from_err c.from_residual-in_err-push.result _ c.from_residual-in_err-push.ensures.0

pub loop-start-preserved : goal.loop-start-preserved
loop-start-preserved g c =
    let item : InodeChange = c.index-changes-start.result in
    let l : c.loop-start.start < length c.args.changes.now = omega arith in
    let number : (get_or c.args.changes.now c.loop-start.start item).number / 8 ≡ c.get-index.result / 8 =
    ap (λ (n : ℕ). n / 8) (sym c.get-index.ensures) in
    let low = c.requires.in_range c.loop-start.start item l in
    let inodes : InodeMap = inode_at (g.V.VRead.pages c.args.store.now) (root_of c.args.root.now) in
    let read : inode_at (g.V.VRead.pages c.loop-start.cursor.store.now) (root_of c.loop-start.cursor.root)
    ≡ inodes =
    rw (c.loop-start.invariant.store, c.loop-start.invariant.root) refl in
    let these : List InodeChange =
    take (c.end_of_block-end.result - c.loop-start.start) (drop c.loop-start.start c.args.changes.now) in
    let more : AreFirstBlockChanges
    (page_at (g.V.VRead.pages c.args.store.now) (root_of c.args.root.now)) inodes c.args.changes.now
    c.end_of_block-end.result c.push.new.self.items =
    subst (λ (blocks : List BlockChange).
    AreFirstBlockChanges (page_at (g.V.VRead.pages c.args.store.now) (root_of c.args.root.now))
    (inode_at (g.V.VRead.pages c.args.store.now) (root_of c.args.root.now)) c.args.changes.now
    c.end_of_block-end.result blocks)
    (sym c.in_ok-push.ensures.items)
    (block_changes-more _ _ c.args.changes.now c.loop-start.start c.end_of_block-end.result _ _
    (c.get-index.result / 8) c.loop-start.invariant.blocks
    c.end_of_block-end.ensures.more c.end_of_block-end.ensures.within
    (λ next.
    ap (λ (x : InodeChange). x.number / 8)
    (get_or_default c.args.changes.now c.loop-start.start next item l)
    ∙ number)
    (omega (arith, low, number)) c.in_ok-changed_block.ensures.index
    (all-between c.args.changes.now c.loop-start.start c.end_of_block-end.result
    (c.get-index.result / 8) c.end_of_block-end.ensures.same)
    (c.in_ok-changed_block.ensures.page
    ∙ ap (λ (f : InodeMap). block_for (in_block (inodes_with these f) (c.get-index.result / 8))) read)
    c.in_ok-changed_block.ensures.fits c.end_of_block-end.ensures.stop item) in
    record {
      store = c.changed_block.ensures.store ∙ c.loop-start.invariant.store;
      root = c.changed_block.ensures.root ∙ c.loop-start.invariant.root;
      blocks = more;
    }
