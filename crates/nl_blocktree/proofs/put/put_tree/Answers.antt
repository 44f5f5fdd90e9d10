use Rattle.std.proofs.Common.{◌∙◌, ◌<◌, List, arith, sym, subst, length}
use Rattle.std.specs.List.{All, AllPairs}
use Rattle.std.proofs.lemmas.Bool.{eqb-true, eqb-false}
use Rattle.std.proofs.lemmas.Result.{IfOk-weaker}
use Rattle.nl_types.specs.Blocks.Roots.{pages_of}
use Rattle.nl_layout.specs.Root.{root_of}
use Rattle.nl_vstore.specs.Stores.{capacity, content_in}
use Rattle.nl_blocktree.specs.Private.Renewing.{IsFileRenewed}
use Rattle.nl_blocktree.specs.Private.TreeLevels.{kept_levels}
use Rattle.nl_blocktree.specs.declared.tree.Edit.{Edit}
use Rattle.nl_blocktree.proofs.TreeAbove.{know_same}
use Rattle.nl_blocktree.specs.Facts.TreeData.{indexes-below}
use Rattle.nl_blocktree.proofs.TreeRoots.{asked_small, puts_nothing, puts_renewed, some_first}
use Rattle.nl_blocktree.proofs.Kept.{goes_on-more}
use Rattle.nl_blocktree.specs.Private.Edits.{ComesBefore}
use Rattle.nl_blocktree.proofs.put.put_tree.Goals as goal

pub returns-then-is_empty-clause-ok : goal.returns-then-is_empty-clause-ok
returns-then-is_empty-clause-ok g c =
    let none = eqb-true c.in_ok-edits.edits.len 0 (sym c.is_empty.ensures ∙ c.if-is_empty.true) in
    let count = c.in_ok-edits.edits.ok.0 in
    puts_nothing (capacity (g.V.Vstore.store c.args.file.now.store.now)) c.in_ok-edits.edits.items c.args.batch.now
    c.put_data.new.batch
    (omega (arith, none, count)) c.requires.file.sound c.in_ok-edits.ensures.fits c.in_ok-edits.ensures.ok

pub renew_file-requires-clause-small : goal.renew_file-requires-clause-small
renew_file-requires-clause-small g c =
    subst (λ (es : List Edit). All (λ (e : Edit). e.offset < 262144) es) (sym c.deref.ensures.value)
    (asked_small c.in_ok-edits.ensures.ok (indexes-below c.args.changes.now 262144 c.requires.in_range))

pub returns-clause-ok : goal.returns-clause-ok
returns-clause-ok g c = IfOk-weaker c.renew_file.result _ _
    (λ new r.
    (puts_renewed (capacity (g.V.Vstore.store c.args.file.now.store.now)) c.args.batch.now c.put_data.new.batch
    c.renew_file.new.batch c.requires.file.fits
    (indexes-below c.args.changes.now 262144 c.requires.in_range)
    (some_first c.in_ok-edits.edits.items
    (let some = eqb-false c.in_ok-edits.edits.len 0 (sym c.is_empty.ensures ∙ c.if-is_empty.false) in
    let count = c.in_ok-edits.edits.ok.0 in
    omega (arith, some, count)))
    c.renew_file.ensures.kept.births
    (root_of c.args.file.now.root)
    (record { sound = c.requires.file.sound; live = c.requires.file.live }) c.in_ok-edits.ensures.ok
    (subst (λ (es : List Edit).
    IsFileRenewed (capacity (g.V.Vstore.store c.args.file.now.store.now))
    (content_in (g.V.Vstore.store c.args.file.now.store.now)) c.args.file.now.inode (root_of c.args.file.now.root) es
    (root_of new) c.put_data.new.batch c.renew_file.new.batch)
    c.deref.ensures.value r)).0)
    c.renew_file.ensures.ok

pub returns-clause-fits : goal.returns-clause-fits
returns-clause-fits g c = IfOk-weaker c.renew_file.result _ _
    (λ new r.
    (puts_renewed (capacity (g.V.Vstore.store c.args.file.now.store.now)) c.args.batch.now c.put_data.new.batch
    c.renew_file.new.batch c.requires.file.fits
    (indexes-below c.args.changes.now 262144 c.requires.in_range)
    (some_first c.in_ok-edits.edits.items
    (let some = eqb-false c.in_ok-edits.edits.len 0 (sym c.is_empty.ensures ∙ c.if-is_empty.false) in
    let count = c.in_ok-edits.edits.ok.0 in
    omega (arith, some, count)))
    c.renew_file.ensures.kept.births
    (root_of c.args.file.now.root)
    (record { sound = c.requires.file.sound; live = c.requires.file.live }) c.in_ok-edits.ensures.ok
    (subst (λ (es : List Edit).
    IsFileRenewed (capacity (g.V.Vstore.store c.args.file.now.store.now))
    (content_in (g.V.Vstore.store c.args.file.now.store.now)) c.args.file.now.inode (root_of c.args.file.now.root) es
    (root_of new) c.put_data.new.batch c.renew_file.new.batch)
    c.deref.ensures.value r)).1)
    c.renew_file.ensures.ok

pub returns-clause-kept : goal.returns-clause-kept
returns-clause-kept g c =
    goes_on-more c.args.batch.now c.put_data.new.batch c.renew_file.new.batch c.in_ok-edits.ensures.kept
    c.renew_file.ensures.kept

pub renew_file-requires-clause-edits : goal.renew_file-requires-clause-edits
renew_file-requires-clause-edits g c =
    let some = eqb-false c.in_ok-edits.edits.len 0 (sym c.is_empty.ensures ∙ c.if-is_empty.false) in
    let count = c.in_ok-edits.edits.ok.0 in
    record {
      fits = c.in_ok-edits.ensures.fits;
      kept = record { sound = c.requires.file.sound; live = c.requires.file.live };
      some =
          subst (λ (es : List Edit). 0 < length es) (sym c.deref.ensures.value)
          (omega (arith, some, count));
      ascending =
          subst (λ (es : List Edit). AllPairs ComesBefore es) (sym c.deref.ensures.value)
          c.in_ok-edits.ensures.ok.ascending;
      above =
          know_same
          (kept_levels (pages_of (content_in (g.V.Vstore.store c.args.file.now.store.now)))
          (root_of c.args.file.now.root))
          0 c.deref.ensures.value c.in_ok-edits.ensures.above;
    }
