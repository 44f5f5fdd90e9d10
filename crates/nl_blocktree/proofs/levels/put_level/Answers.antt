use Rattle.std.proofs.Common.{◌≡◌, ◌∙◌, ◌+◌, ◌/◌, [], suc, List, take, get_or, arith, ap, sym, subst}
use Rattle.std.proofs.lemmas.List.{length-take, take_all}
use Rattle.nl_types.specs.Blocks.Roots.{numbered, pages_of}
use Rattle.nl_layout.specs.Root.{root_of}
use Rattle.nl_vstore.specs.Stores.{content_in}
use Rattle.nl_blocktree.specs.Private.TreeLevels.{kept_levels}
use Rattle.nl_blocktree.specs.Private.Writing.{PutsLevel}
use Rattle.nl_blocktree.specs.declared.tree.Edit.{Edit}
use Rattle.nl_blocktree.proofs.Kept.{goes_on-append, goes_on-more}
use Rattle.nl_blocktree.proofs.TreeAbove.{know_none, know_same, know_top, know_up, old_above}
use Rattle.nl_blocktree.proofs.TreeClimbing.{ups_some}
use Rattle.nl_blocktree.proofs.TreeKept.{kept_live}
use Rattle.nl_blocktree.proofs.TreeSteps.{any_default, group_ascends, group_puts, groups_more, groups_none, later_edge}
use Rattle.std.proofs.lemmas.Result.{IfOk-from_err}
use Rattle.nl_blocktree.proofs.levels.put_level.Goals as goal

pub loop-at-init : goal.loop-at-init
loop-at-init g c =
    let kept =
    kept_levels (pages_of (content_in (g.V.Vstore.store c.args.file.now.store.now))) (root_of c.args.file.now.root) in
    record {
      puts =
          subst (λ (ups : List Edit).
          PutsLevel (content_in (g.V.Vstore.store c.args.file.now.store.now)) c.args.file.now.inode (suc c.args.below)
          (kept (suc c.args.below)) (kept c.args.below)
          [] ups c.args.batch.now.births c.args.batch.now.births c.args.batch.now.ends c.args.batch.now.ends)
          (sym c.new-ups.ensures.items)
          (groups_none _ _ _ _ _ _ _);
      fits = c.requires.edits.fits;
      above = know_same kept (c.args.below + 1) c.new-ups.ensures.items (know_none kept (c.args.below + 1));
      within = omega arith;
      edge = λ i j d e l. absurd (omega arith);
    }

pub put_node-requires-clause-live : goal.put_node-requires-clause-live
put_node-requires-clause-live g c =
    let content = content_in (g.V.Vstore.store c.args.file.now.store.now) in
    let root = root_of c.args.file.now.root in
    let x = c.index-edits-at.result in
    let stands : c.node_above-old.result
    ≡ kept_levels (pages_of content) root (suc c.args.below) (x.offset / 128) =
    c.node_above-old.ensures
    ∙ subst (λ (y : Edit).
    numbered (get_or y.above.items c.args.below 0)
    ≡ kept_levels (pages_of content) root (suc c.args.below) (y.offset / 128))
    (sym c.index-edits-at.is)
    (old_above (kept_levels (pages_of content) root) c.args.below c.args.edits.now c.loop-at.at x
    c.loop-at-test.true c.requires.edits.above) in
    λ v e. kept_live content root c.requires.edits.kept.live (suc c.args.below) (x.offset / 128) v (sym stands ∙ e)

pub put_node-requires-clause-ascending : goal.put_node-requires-clause-ascending
put_node-requires-clause-ascending g c =
    let x = c.index-edits-at.result in
    group_ascends c.args.edits.now c.loop-at.at c.group_end-end.result
    (x.offset / 128) c.requires.edits.ascending c.group_end-end.ensures.after c.group_end-end.ensures.within
    c.loop-at.invariant.edge c.group_end-end.ensures.grouped c.group_end-end.ensures.next
    (λ d.
    ap (λ (y : Edit). y.offset / 128)
    (c.index-edits-at.is ∙ any_default c.args.edits.now c.loop-at.at x d c.loop-at-test.true))

pub returns-in_err-number-clause-kept : goal.returns-in_err-number-clause-kept
returns-in_err-number-clause-kept g c =
    goes_on-more c.args.batch.now c.loop-at.batch c.put_node.new.batch
    (goes_on-append c.args.batch.now c.loop-at.batch c.loop-at.invariant.puts.added
    c.loop-at.invariant.puts.gone c.loop-at.invariant.puts.births_are c.loop-at.invariant.puts.ends_are)
    c.put_node.ensures.kept

pub returns-in_err-add_up-clause-kept : goal.returns-in_err-add_up-clause-kept
returns-in_err-add_up-clause-kept g c =
    goes_on-more c.args.batch.now c.loop-at.batch c.put_node.new.batch
    (goes_on-append c.args.batch.now c.loop-at.batch c.loop-at.invariant.puts.added
    c.loop-at.invariant.puts.gone c.loop-at.invariant.puts.births_are c.loop-at.invariant.puts.ends_are)
    c.put_node.ensures.kept

pub loop-at-preserved : goal.loop-at-preserved
loop-at-preserved g c =
    let content = content_in (g.V.Vstore.store c.args.file.now.store.now) in
    let root = root_of c.args.file.now.root in
    let below = c.args.below in
    let edits = c.args.edits.now in
    let k = c.loop-at.at in
    let end = c.group_end-end.result in
    let x = c.index-edits-at.result in
    let kept = kept_levels (pages_of content) root in
    let number = c.in_ok-number.number in
    let up = c.in_ok-add_up.ensures in
    let stands : c.node_above-old.result ≡ kept_levels (pages_of content) root (suc below) (x.offset / 128) =
    c.node_above-old.ensures
    ∙ subst (λ (y : Edit).
    numbered (get_or y.above.items below 0)
    ≡ kept_levels (pages_of content) root (suc below) (y.offset / 128))
    (sym c.index-edits-at.is)
    (old_above kept below edits k x c.loop-at-test.true c.requires.edits.above) in
    record {
      puts =
          subst
          (λ (ups : List Edit). PutsLevel content c.args.file.now.inode (suc below) (kept (suc below)) (kept below)
          (take end edits) ups c.args.batch.now.births c.put_node.new.batch.births c.args.batch.now.ends
          c.put_node.new.batch.ends)
          (sym up.2)
          (groups_more edits k end
          (x.offset / 128) c.requires.edits.ascending c.group_end-end.ensures.after c.group_end-end.ensures.within
          c.loop-at.invariant.edge c.group_end-end.ensures.grouped c.group_end-end.ensures.next
          (λ d.
          ap (λ (y : Edit). y.offset / 128)
          (c.index-edits-at.is ∙ any_default edits k x d c.loop-at-test.true))
          content c.args.file.now.inode root below number up.0 c.loop-at.ups.items c.requires.edits.kept.sound
          c.requires.told
          c.loop-at.invariant.puts (group_puts _ c.new-level.ensures stands c.in_ok-number.ensures.ok));
      fits = c.in_ok-number.ensures.fits;
      above = know_same kept (below + 1) up.2
          (know_up kept below edits c.loop-at.ups.items k x
          (record { offset = x.offset / 128; number = number; above = up.0 }) c.loop-at-test.true
          c.requires.edits.above
          (ap (λ (y : Edit). y.offset / 128) c.index-edits-at.is)
          (up.1 ∙ ap (λ (y : Edit). y.above.items) c.index-edits-at.is) c.loop-at.invariant.above);
      within = c.group_end-end.ensures.within;
      edge =
          later_edge edits k end
          (x.offset / 128) c.requires.edits.ascending c.group_end-end.ensures.after c.group_end-end.ensures.within
          c.loop-at.invariant.edge c.group_end-end.ensures.grouped c.group_end-end.ensures.next
          (λ d.
          ap (λ (y : Edit). y.offset / 128)
          (c.index-edits-at.is ∙ any_default edits k x d c.loop-at-test.true));
    }

pub with_top-requires : goal.with_top-requires
with_top-requires g c =
    let some = c.requires.edits.some in
    let n = length-take c.loop-at.at c.args.edits.now in
    ups_some c.loop-at.invariant.puts (omega (arith, some, n, c.loop-at-test.false))

pub returns-clause-above : goal.returns-clause-above
returns-clause-above g c =
    let pages = pages_of (content_in (g.V.Vstore.store c.args.file.now.store.now)) in
    let root = root_of c.args.file.now.root in
    know_same (kept_levels pages root) (c.args.below + 1) c.in_ok-told.ensures
    (know_top pages root (c.args.below + 1) c.args.height c.loop-at.ups.items c.loop-at.invariant.above)

pub returns-in_err-told-clause-kept : goal.returns-in_err-told-clause-kept
returns-in_err-told-clause-kept g c =
    goes_on-append c.args.batch.now c.loop-at.batch c.loop-at.invariant.puts.added
    c.loop-at.invariant.puts.gone c.loop-at.invariant.puts.births_are c.loop-at.invariant.puts.ends_are

pub returns-clause-kept : goal.returns-clause-kept
returns-clause-kept g c =
    goes_on-append c.args.batch.now c.loop-at.batch c.loop-at.invariant.puts.added
    c.loop-at.invariant.puts.gone c.loop-at.invariant.puts.births_are c.loop-at.invariant.puts.ends_are

pub returns-clause-ok : goal.returns-clause-ok
returns-clause-ok g c =
    let content = content_in (g.V.Vstore.store c.args.file.now.store.now) in
    let kept = kept_levels (pages_of content) (root_of c.args.file.now.root) in
    let past = c.loop-at-test.false in (
      c.loop-at.ups.items,
      c.in_ok-told.ensures,
      subst (λ (es : List Edit).
          PutsLevel content c.args.file.now.inode (suc c.args.below) (kept (suc c.args.below)) (kept c.args.below)
          es c.loop-at.ups.items c.args.batch.now.births c.loop-at.batch.births c.args.batch.now.ends
          c.loop-at.batch.ends)
          (take_all c.loop-at.at c.args.edits.now past) c.loop-at.invariant.puts,
    )

pub returns-in_err-number-clause-ok : goal.returns-in_err-number-clause-ok
returns-in_err-number-clause-ok g c = IfOk-from_err c.from_residual.result _ c.from_residual.ensures.0

pub returns-in_err-number-clause-above : goal.returns-in_err-number-clause-above
returns-in_err-number-clause-above g c = IfOk-from_err c.from_residual.result _ c.from_residual.ensures.0

pub returns-in_err-number-clause-fits : goal.returns-in_err-number-clause-fits
returns-in_err-number-clause-fits g c = IfOk-from_err c.from_residual.result _ c.from_residual.ensures.0

pub returns-in_err-add_up-clause-ok : goal.returns-in_err-add_up-clause-ok
returns-in_err-add_up-clause-ok g c =
    IfOk-from_err c.from_residual-in_err-add_up.result _ c.from_residual-in_err-add_up.ensures.0

pub returns-in_err-add_up-clause-above : goal.returns-in_err-add_up-clause-above
returns-in_err-add_up-clause-above g c =
    IfOk-from_err c.from_residual-in_err-add_up.result _ c.from_residual-in_err-add_up.ensures.0

pub returns-in_err-add_up-clause-fits : goal.returns-in_err-add_up-clause-fits
returns-in_err-add_up-clause-fits g c =
    IfOk-from_err c.from_residual-in_err-add_up.result _ c.from_residual-in_err-add_up.ensures.0

pub returns-in_err-told-clause-ok : goal.returns-in_err-told-clause-ok
returns-in_err-told-clause-ok g c =
    IfOk-from_err c.from_residual-in_err-told.result _ c.from_residual-in_err-told.ensures.0

pub returns-in_err-told-clause-above : goal.returns-in_err-told-clause-above
returns-in_err-told-clause-above g c =
    IfOk-from_err c.from_residual-in_err-told.result _ c.from_residual-in_err-told.ensures.0

pub returns-in_err-told-clause-fits : goal.returns-in_err-told-clause-fits
returns-in_err-told-clause-fits g c =
    IfOk-from_err c.from_residual-in_err-told.result _ c.from_residual-in_err-told.ensures.0
