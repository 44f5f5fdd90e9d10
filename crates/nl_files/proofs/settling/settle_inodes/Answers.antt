use Rattle.std.proofs.Common.{ℕ, List, ap, subst, ◌∙◌}
use Rattle.std.proofs.lemmas.Result.{IfOk-from_err}
use Rattle.nl_types.specs.declared.error.VolError.TheVariants.{Memory}
use Rattle.nl_types.specs.Blocks.Roots.{pages_of}
use Rattle.nl_layout.specs.Root.{root_of}
use Rattle.nl_vstore.specs.Stores.{content_in}
use Rattle.nl_tree.specs.Became.{Became, EachMayBecome}
use Rattle.nl_tree.specs.Overlays.{became_in, slot_shows}
use Rattle.nl_tree.specs.Shown.{pair, shown_entries}
use Rattle.nl_tree.specs.Facts.Refusals.{passed_on}
use Rattle.nl_files.specs.CheckpointRoots.{roots_at}
use Rattle.nl_files.specs.Settles.{Settling}
use Rattle.nl_files.specs.Facts.Slots.{changes-rest, shown-split}
use Rattle.nl_files.proofs.settling.settle_inodes.Goals as goal

pub loop-number-preserved : goal.loop-number-preserved
loop-number-preserved g c =
    let content = content_in (g.V.Vstore.store c.args.store.now) in
    let roots = roots_at (pages_of content) (root_of c.args.root.now) in
    let number = c.in-Some.number.now in
    let slot = c.in-Some.slot.now in
    let rest = c.next.new.self in
    let all = became_in c.args.overlay.now in
    let step = ap (λ es. shown_entries pair slot_shows es) c.in-Some.ensures.steps in
    record {
      fits = c.in_ok-settle_slot.ensures.fits;
      changes = changes-rest number slot rest
          (subst (λ (xs : List (ℕ × Became)). EachMayBecome xs) step c.loop-number.invariant.changes);
      settling = λ base stores holding.
          c.in_ok-settle_slot.ensures.settling base c.args.batch.now
          (shown_entries pair slot_shows rest) all stores holding
          (subst (λ (xs : List (ℕ × Became)).
          Settling content roots base c.args.batch.now c.loop-number.batch c.loop-number.inodes.items xs all)
          (step ∙ shown-split number slot rest) (c.loop-number.invariant.settling base stores holding));
    }

pub returns-in_err-settle_slot-clause-settling : goal.returns-in_err-settle_slot-clause-settling
returns-in_err-settle_slot-clause-settling g c =
    IfOk-from_err c.from_residual.result _ c.from_residual.ensures.0

pub returns-in_err-settle_slot-clause-fits : goal.returns-in_err-settle_slot-clause-fits
returns-in_err-settle_slot-clause-fits g c = IfOk-from_err c.from_residual.result _ c.from_residual.ensures.0

pub returns-in_err-settle_slot-clause-err : goal.returns-in_err-settle_slot-clause-err
returns-in_err-settle_slot-clause-err g c =
    passed_on c.from_residual.result c.in_err-settle_slot.field-0.0 Memory c.from_residual.ensures.1
    c.in_err-settle_slot.ensures.err

pub settle_slot-requires-clause-fits : goal.settle_slot-requires-clause-fits
settle_slot-requires-clause-fits g c = c.loop-number.invariant.fits

pub settle_slot-requires-clause-checkpoint : goal.settle_slot-requires-clause-checkpoint
settle_slot-requires-clause-checkpoint g c = c.requires.checkpoint
