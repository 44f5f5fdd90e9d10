use Rattle.std.proofs.Common.{List, sym, subst}
use Rattle.nl_layout.specs.Root.{root_of}
use Rattle.nl_vstore.specs.Stores.{content_in}
use Rattle.nl_blocktree.specs.declared.change.BlockChange.{BlockChange}
use Rattle.nl_blocktree.specs.Changed.{IndexesAreInRange, IndexesAscend}
use Rattle.nl_tree.specs.Overlays.{became_of}
use Rattle.nl_tree.specs.Facts.Rising.{rises-below, rises-pairs}
use Rattle.nl_files.specs.Private.Planned.{index_of}
use Rattle.nl_files.specs.Facts.Ones.{settled-one}
use Rattle.nl_files.proofs.settling.settle_one.Goals as goal

pub put_all-requires-clause-ascending : goal.put_all-requires-clause-ascending
put_all-requires-clause-ascending g c =
    subst (λ (cs : List BlockChange). IndexesAscend cs) (sym c.deref.ensures.value)
    (rises-pairs index_of 0 262144 c.in_ok-plan.plan.changes.items c.in_ok-plan.ensures.range)

pub put_all-requires-clause-in_range : goal.put_all-requires-clause-in_range
put_all-requires-clause-in_range g c =
    subst (λ (cs : List BlockChange). IndexesAreInRange cs) (sym c.deref.ensures.value)
    (rises-below index_of 0 262144 c.in_ok-plan.plan.changes.items c.in_ok-plan.ensures.range)

pub returns-clause-settled : goal.returns-clause-settled
returns-clause-settled g c = λ base is.
    settled-one (content_in (g.V.Vstore.store c.args.store.now)) c.args.number c.args.old.now
    (became_of c.args.what.now) c.in_ok-plan.plan (root_of c.root_or_empty.result) c.in_ok-root.root
    c.with_root.result c.deref.result.now c.args.batch.now c.put_all.new.batch base
    c.in_ok-plan.ensures.planned c.deref.ensures.value c.root_or_empty.ensures c.in_ok-root.ensures.ok
    c.with_root.ensures is
