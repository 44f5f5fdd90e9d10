use Rattle.std.proofs.Common.{◌≡◌, ◌++◌, ◌∷◌, [], ◌∙◌, ◌+◌, ◌*◌, ◌%◌, ℕ, List, Option, ap, sym, subst}
use Rattle.std.specs.Option.{IsSome}
use Rattle.std.proofs.lemmas.Result.{IfOk-weaker}
use Rattle.nl_types.specs.Blocks.Entries.{Birth}
use Rattle.nl_types.specs.Blocks.Roots.{Pages, child, numbered}
use Rattle.nl_vstore.specs.Stores.{content_in}
use Rattle.nl_vstore.specs.Batches.{Changes, IsLowestFree}
use Rattle.nl_blocktree.specs.Private.Writing as shapes
use Rattle.nl_blocktree.specs.Private.Edits.{edited}
use Rattle.nl_blocktree.specs.declared.tree.Edit.{Edit}
use Rattle.nl_blocktree.specs.Facts.Staying.{some-is}
use Rattle.nl_blocktree.specs.Facts.Numbers.{numbered-nonzero}
use Rattle.nl_blocktree.proofs.Kept.{goes_on-births, goes_on-ends, goes_on-more}
use Rattle.nl_blocktree.proofs.tree.put_node.Goals as goal

-- what is read is what is stored
as_stored : {read stored : Pages} (group : List Edit) (old : Option ℕ) (offset s : ℕ) → read ≡ stored →
    edited group (λ i. child read (i % 128) old) (128 * offset + s)
    ≡ edited group (λ i. child stored (i % 128) old) (128 * offset + s)
as_stored group old offset s e =
    ap (λ (pages : Pages). edited group (λ i. child pages (i % 128) old) (128 * offset + s)) e

pub returns-then-is_blank-clause-ok : goal.returns-then-is_blank-clause-ok
returns-then-is_blank-clause-ok g c =
    shapes.goes c.new.ensures
    (λ s l.
    sym (c.edited_node-node.ensures.slots s l
    ∙ as_stored c.args.group.now c.args.old c.args.offset s
    (g.met.V.Vstore.reads_pages c.args.file.now.store.now))
    ∙ ap numbered (c.is_blank.ensures.none c.if-is_blank.true s l))
    c.end_old.ensures.births_kept (ap (λ (x : Changes). x.ends) c.in_ok-end_old.ensures.ok)

pub returns-then-is_blank-clause-fits : goal.returns-then-is_blank-clause-fits
returns-then-is_blank-clause-fits g c = c.in_ok-end_old.ensures.fits _ _ c.requires.fits c.requires.live

pub bear_node-requires : goal.bear_node-requires
bear_node-requires g c = c.in_ok-end_old.ensures.fits _ _ c.requires.fits c.requires.live

pub returns-clause-ok : goal.returns-clause-ok
returns-clause-ok g c = IfOk-weaker c.bear_node.result _ _ (λ n b.
    let some = c.is_blank.ensures.some c.if-is_blank.false in
    shapes.comes b.birth b.inode_is b.level_is b.offset_is b.number_is
    (subst
    (λ (bs : List Birth). IsLowestFree (content_in (g.V.Vstore.store c.args.file.now.store.now)) bs b.birth.number)
    c.end_old.ensures.births_kept b.free)
    (λ s l.
    b.slots_are s l
    ∙ (c.edited_node-node.ensures.slots s l
    ∙ as_stored c.args.group.now c.args.old c.args.offset s (g.met.V.Vstore.reads_pages c.args.file.now.store.now)))
    some.0 some.1 (subst IsSome
    (c.edited_node-node.ensures.slots some.0 some.1
    ∙ as_stored c.args.group.now c.args.old c.args.offset some.0
    (g.met.V.Vstore.reads_pages c.args.file.now.store.now))
    (some-is _ _ (numbered-nonzero _ some.2)))
    (b.births_are ∙ ap (λ (bs : List Birth). bs ++ b.birth ∷ []) c.end_old.ensures.births_kept)
    (c.bear_node.ensures.ends ∙ ap (λ (x : Changes). x.ends) c.in_ok-end_old.ensures.ok))
    c.bear_node.ensures.ok

pub returns-in_err-end_old-clause-kept : goal.returns-in_err-end_old-clause-kept
returns-in_err-end_old-clause-kept g c =
    goes_on-ends _ _ c.in_err-end_old.ensures.births_kept c.in_err-end_old.ensures.ends_kept

pub returns-then-is_blank-clause-kept : goal.returns-then-is_blank-clause-kept
returns-then-is_blank-clause-kept g c =
    goes_on-ends _ _ c.end_old.ensures.births_kept c.end_old.ensures.ends_kept

pub returns-clause-kept : goal.returns-clause-kept
returns-clause-kept g c =
    goes_on-more _ _ _ (goes_on-ends _ _ c.end_old.ensures.births_kept c.end_old.ensures.ends_kept)
    (goes_on-births _ _ c.bear_node.ensures.births_kept c.bear_node.ensures.ends)
