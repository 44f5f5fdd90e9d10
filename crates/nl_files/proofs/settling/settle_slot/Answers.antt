use Rattle.std.proofs.Common.{◌≡◌, ℕ, ◌≤◌, Bool, cond, Option, Some, None, List, [], ◌++◌, refl, sym, subst, ap, ◌∙◌}
use Rattle.std.specs.List.{cons_option}
use Rattle.std.specs.Option.{option_map}
use Rattle.std.proofs.lemmas.Result.{IfOk-from_err, IfOk-weaker}
use Rattle.nl_types.specs.Blocks.Roots.{Pages, pages_of}
use Rattle.nl_layout.specs.Root.{root_of}
use Rattle.nl_layout.specs.declared.inode.Inode.{Inode}
use Rattle.nl_vstore.specs.Stores.{content_in}
use Rattle.nl_ifile.specs.Inodes.{inode_at}
use Rattle.nl_tree.specs.Became.{Became, EachMayBecome}
use Rattle.nl_tree.specs.Overlays.{became_of}
use Rattle.nl_tree.specs.Shown.{pair}
use Rattle.nl_files.specs.CheckpointRoots.{IsRootInUse, inode_root, roots_at}
use Rattle.nl_files.specs.Private.Planned.{inode_size}
use Rattle.nl_files.specs.Settles.{Settling}
use Rattle.nl_files.specs.Facts.Bases.{small-in}
use Rattle.nl_types.specs.declared.error.VolError.TheVariants.{Memory}
use Rattle.nl_tree.specs.Facts.Refusals.{passed_on}
use Rattle.nl_files.specs.Facts.Slots.{live-shown, slot-settled}
use Rattle.nl_files.proofs.settling.settle_slot.Goals as goal

pub settle_one-requires-clause-in_use : goal.settle_one-requires-clause-in_use
settle_one-requires-clause-in_use g c =
    let content = content_in (g.V.Vstore.store c.args.store.now) in
    let number = c.args.number in
    let old : c.inode-old.result ≡ inode_at (pages_of content) (root_of c.args.root.now) number =
    c.inode-old.ensures
    ∙ ap (λ (pages : Pages). inode_at pages (root_of c.args.root.now) number)
    (g.met.V.Vstore.reads_pages c.args.store.now) in
    subst (λ (o : Option Inode). IsRootInUse content (inode_root o)) (sym old)
    (c.requires.checkpoint.each number)

pub settle_one-requires-clause-sized : goal.settle_one-requires-clause-sized
settle_one-requires-clause-sized g c =
    let content = content_in (g.V.Vstore.store c.args.store.now) in
    let number = c.args.number in
    let old : c.inode-old.result ≡ inode_at (pages_of content) (root_of c.args.root.now) number =
    c.inode-old.ensures
    ∙ ap (λ (pages : Pages). inode_at pages (root_of c.args.root.now) number)
    (g.met.V.Vstore.reads_pages c.args.store.now) in
    subst (λ (o : Option Inode). inode_size o ≤ 268435456) (sym old)
    (small-in content (root_of c.args.root.now) number c.requires.checkpoint)

pub returns-clause-settling : goal.returns-clause-settling
returns-clause-settling g c =
    let content = content_in (g.V.Vstore.store c.args.store.now) in
    let number = c.args.number in
    let old : c.inode-old.result ≡ inode_at (pages_of content) (root_of c.args.root.now) number =
    c.inode-old.ensures
    ∙ ap (λ (pages : Pages). inode_at pages (root_of c.args.root.now) number)
    (g.met.V.Vstore.reads_pages c.args.store.now) in
    IfOk-weaker c.push_inode.result _ _
    (λ x pushed. λ base before left all stores holding h.
    slot-settled content (root_of c.args.root.now) c.args.number number c.inode-old.result c.in_ok-new.new
    c.args.slot.now c.args.batch.now c.settle_one.new.batch c.args.inodes.now.items
    c.push_inode.new.inodes.items
    c.requires.checkpoint refl old c.if-not-slot.false c.requires.changes
    c.in_ok-new.ensures.settled pushed base before left all stores holding h)
    c.push_inode.ensures.ok

pub settle_one-requires-clause-fits : goal.settle_one-requires-clause-fits
settle_one-requires-clause-fits g c = c.requires.fits

pub returns-clause-fits : goal.returns-clause-fits
returns-clause-fits g c =
    IfOk-weaker c.push_inode.result _ _ (λ x pushed. c.in_ok-new.ensures.fits) c.push_inode.ensures.ok

pub returns-clause-err : goal.returns-clause-err
returns-clause-err g c = c.push_inode.ensures.err

pub returns-in_err-new-clause-settling : goal.returns-in_err-new-clause-settling
returns-in_err-new-clause-settling g c = IfOk-from_err c.from_residual.result _ c.from_residual.ensures.0

pub returns-in_err-new-clause-fits : goal.returns-in_err-new-clause-fits
returns-in_err-new-clause-fits g c = IfOk-from_err c.from_residual.result _ c.from_residual.ensures.0

pub returns-in_err-new-clause-err : goal.returns-in_err-new-clause-err
returns-in_err-new-clause-err g c =
    passed_on c.from_residual.result c.in_err-new.field-0.0 Memory c.from_residual.ensures.1
    c.in_err-new.ensures.err

pub returns-then-not-slot-clause-fits : goal.returns-then-not-slot-clause-fits
returns-then-not-slot-clause-fits g c = c.requires.fits

pub returns-then-not-slot-clause-err : goal.returns-then-not-slot-clause-err
returns-then-not-slot-clause-err g c = tt

pub returns-then-not-slot-clause-settling : goal.returns-then-not-slot-clause-settling
returns-then-not-slot-clause-settling g c =
    let content = content_in (g.V.Vstore.store c.args.store.now) in
    λ base before left all stores holding.
    subst (λ (o : Option Became).
    Settling content
    (roots_at (pages_of content) (root_of c.args.root.now)) base before c.args.batch.now
    c.args.inodes.now.items
    (cons_option (option_map (λ (x : Became). pair c.args.number x) o) [] ++ left) all)
    (ap (λ (live : Bool). cond live (Some (became_of c.args.slot.now.what)) None) c.if-not-slot.true)

pub settle_one-requires-clause-change : goal.settle_one-requires-clause-change
settle_one-requires-clause-change g c =
    (subst (λ (xs : List (ℕ × Became)). EachMayBecome xs)
    (live-shown c.args.number c.args.slot.now c.if-not-slot.false) c.requires.changes).1
