use Rattle.std.proofs.Common.{◌≡◌, ◌+◌, ◌++◌, ◌∷◌, [], ◌<◌, ℕ, List, Option, length, take, get_or, arith, ap, sym, subst, ◌∙◌}
use Rattle.std.proofs.lemmas.List.{take_more, take_all}
use Rattle.nl_types.specs.Blocks.Roots.{Pages, pages_of, place_at}
use Rattle.nl_layout.specs.Root.{root_of}
use Rattle.nl_vstore.specs.Stores.{content_in}
use Rattle.nl_blocktree.specs.declared.change.BlockChange.{BlockChange}
use Rattle.nl_blocktree.specs.declared.tree.Edit.{Edit}
use Rattle.nl_blocktree.specs.Private.Edits.{TellsAbove}
use Rattle.nl_blocktree.specs.Private.TreeLevels.{kept_levels}
use Rattle.nl_blocktree.specs.Private.Writing.{PutsData, PutsOne}
use Rattle.nl_blocktree.proofs.Kept.{goes_on-append, goes_on-more}
use Rattle.nl_blocktree.proofs.TreeAbove.{chain_begins, know_edit, know_none, know_same}
use Rattle.nl_blocktree.specs.Facts.TreeData.{below-here, data_more, puts_none}
use Rattle.std.proofs.lemmas.Result.{IfOk-from_err}
use Rattle.nl_blocktree.proofs.data.put_data.Goals as goal

pub loop-change-init : goal.loop-change-init
loop-change-init g c = record {
  puts =
      subst (λ (es : List Edit).
      PutsData (content_in (g.V.Vstore.store c.args.file.now.store.now)) c.args.file.now.inode []
      (place_at (pages_of (content_in (g.V.Vstore.store c.args.file.now.store.now))) (root_of c.args.file.now.root) 0)
      es
      c.args.batch.now.births c.args.batch.now.births c.args.batch.now.ends c.args.batch.now.ends)
      (sym c.new-edits.ensures.items)
      (puts_none (content_in (g.V.Vstore.store c.args.file.now.store.now)) c.args.file.now.inode
      (place_at (pages_of (content_in (g.V.Vstore.store c.args.file.now.store.now))) (root_of c.args.file.now.root) 0)
      c.args.batch.now.births c.args.batch.now.ends);
  above =
      know_same
      (kept_levels (pages_of (content_in (g.V.Vstore.store c.args.file.now.store.now))) (root_of c.args.file.now.root))
      0 c.new-edits.ensures.items
      (know_none
      (kept_levels (pages_of (content_in (g.V.Vstore.store c.args.file.now.store.now))) (root_of c.args.file.now.root))
      0);
  fits = c.requires.file.fits;
  node = chain_begins (g.V.VRead.pages c.args.file.now.store.now) (root_of c.args.file.now.root) c.first_node-node.ensures;
}

pub loop-change-preserved : goal.loop-change-preserved
loop-change-preserved g c =
    let k = c.loop-change.change-index in
    let cs = c.args.changes.now in
    let x = c.change-item.result in
    let within : k < length cs = omega arith in
    let here : get_or cs k x ≡ x = sym c.change-item.is in
    let more : take (k + 1) cs ≡ take k cs ++ x ∷ [] =
    take_more cs k x within ∙ ap (λ (y : BlockChange). take k cs ++ y ∷ []) here in
    let stands : c.path_to-path.result.number
    ≡ place_at (pages_of (content_in (g.V.Vstore.store c.args.file.now.store.now)))
    (root_of c.args.file.now.root) 0 x.index =
    c.path_to-path.ensures.number
    ∙ ap (λ (pages : Pages). place_at pages (root_of c.args.file.now.root) 0 x.index)
    (g.met.V.Vstore.reads_pages c.args.file.now.store.now) in
    record {
      puts =
          rw (more, c.in_ok-add_edit.ensures)
          (data_more x c.in_ok-number.number c.path_to-path.result.above
          (λ i v e. c.requires.file.sound.stored 0 i v e)
          (λ i j v p q.
          let same = c.requires.file.sound.once (0, i) (0, j) v p q in ap (λ (a : ℕ × ℕ). a.1) same)
          c.loop-change.invariant.puts
          (λ o i.
          subst (λ (y : BlockChange). o < y.index) here (below-here cs k x c.requires.ascending within o i))
          (subst (λ (old : Option ℕ).
          PutsOne (content_in (g.V.Vstore.store c.args.file.now.store.now)) c.args.file.now.inode x.index x.page old
          c.in_ok-number.number
          c.loop-change.batch.births c.put_block.new.batch.births c.loop-change.batch.ends
          c.put_block.new.batch.ends)
          stands c.in_ok-number.ensures.ok));
      above =
          know_same (kept_levels (pages_of (content_in (g.V.Vstore.store c.args.file.now.store.now)))
          (root_of c.args.file.now.root))
          0 c.in_ok-add_edit.ensures
          (know_edit (kept_levels (pages_of (content_in (g.V.Vstore.store c.args.file.now.store.now)))
          (root_of c.args.file.now.root))
          c.loop-change.edits.items x.index c.in_ok-number.number c.path_to-path.result.above
          c.loop-change.invariant.above
          (subst (λ (pages : Pages).
          TellsAbove
          (kept_levels pages (root_of c.args.file.now.root)) 0 x.index c.path_to-path.result.above.items)
          (g.met.V.Vstore.reads_pages c.args.file.now.store.now) c.path_to-path.ensures.above));
      fits = c.in_ok-number.ensures.fits;
      node = c.path_to-path.ensures.node;
    }

pub put_block-requires-clause-live : goal.put_block-requires-clause-live
put_block-requires-clause-live g c =
    λ v e. c.requires.file.live 0 c.change-item.result.index v
    (sym (c.path_to-path.ensures.number
    ∙ ap (λ (pages : Pages). place_at pages (root_of c.args.file.now.root) 0 c.change-item.result.index)
    (g.met.V.Vstore.reads_pages c.args.file.now.store.now))
    ∙ e)

pub returns-clause-kept : goal.returns-clause-kept
returns-clause-kept g c =
    goes_on-append c.args.batch.now c.loop-change.batch c.loop-change.invariant.puts.added
    c.loop-change.invariant.puts.gone c.loop-change.invariant.puts.births_are
    c.loop-change.invariant.puts.ends_are

pub returns-in_err-number-clause-kept : goal.returns-in_err-number-clause-kept
returns-in_err-number-clause-kept g c =
    goes_on-more c.args.batch.now c.loop-change.batch c.put_block.new.batch
    (goes_on-append c.args.batch.now c.loop-change.batch c.loop-change.invariant.puts.added
    c.loop-change.invariant.puts.gone c.loop-change.invariant.puts.births_are
    c.loop-change.invariant.puts.ends_are)
    c.in_err-number.ensures.kept

pub returns-in_err-add_edit-clause-kept : goal.returns-in_err-add_edit-clause-kept
returns-in_err-add_edit-clause-kept g c =
    goes_on-more c.args.batch.now c.loop-change.batch c.put_block.new.batch
    (goes_on-append c.args.batch.now c.loop-change.batch c.loop-change.invariant.puts.added
    c.loop-change.invariant.puts.gone c.loop-change.invariant.puts.births_are
    c.loop-change.invariant.puts.ends_are)
    c.in_ok-number.ensures.kept

pub returns-in_err-number-clause-ok : goal.returns-in_err-number-clause-ok
returns-in_err-number-clause-ok g c = IfOk-from_err c.from_residual.result _ c.from_residual.ensures.0

pub returns-in_err-number-clause-above : goal.returns-in_err-number-clause-above
returns-in_err-number-clause-above g c = IfOk-from_err c.from_residual.result _ c.from_residual.ensures.0

pub returns-in_err-number-clause-fits : goal.returns-in_err-number-clause-fits
returns-in_err-number-clause-fits g c = IfOk-from_err c.from_residual.result _ c.from_residual.ensures.0

pub returns-in_err-add_edit-clause-ok : goal.returns-in_err-add_edit-clause-ok
returns-in_err-add_edit-clause-ok g c =
    IfOk-from_err c.from_residual-in_err-add_edit.result _ c.from_residual-in_err-add_edit.ensures.0

pub returns-in_err-add_edit-clause-above : goal.returns-in_err-add_edit-clause-above
returns-in_err-add_edit-clause-above g c =
    IfOk-from_err c.from_residual-in_err-add_edit.result _ c.from_residual-in_err-add_edit.ensures.0

pub returns-in_err-add_edit-clause-fits : goal.returns-in_err-add_edit-clause-fits
returns-in_err-add_edit-clause-fits g c =
    IfOk-from_err c.from_residual-in_err-add_edit.result _ c.from_residual-in_err-add_edit.ensures.0

pub returns-clause-ok : goal.returns-clause-ok
returns-clause-ok g c =
    let content = content_in (g.V.Vstore.store c.args.file.now.store.now) in
    subst (λ (changes : List BlockChange).
    PutsData content c.args.file.now.inode changes (place_at (pages_of content) (root_of c.args.file.now.root) 0)
    c.loop-change.edits.items c.args.batch.now.births c.loop-change.batch.births c.args.batch.now.ends
    c.loop-change.batch.ends)
    (take_all c.loop-change.change-index c.args.changes.now (omega arith)) c.loop-change.invariant.puts
