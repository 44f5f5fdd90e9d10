use Rattle.nl_types.specs.declared.event.Event.TheVariants as event
use Rattle.nl_lib.proofs.Replies.{done-replied, not-memory, removal-done}
use Rattle.nl_lib.proofs.changes.delete_checkpoint.Goals as goal

pub returns-clause-does : goal.returns-clause-does
returns-clause-does g c =
    let old = c.args.pen.now in
    let new = c.apply.new.pen in
    done-replied old new (event.Remove c.args.number) c.apply.result
    (λ found does. removal-done old new found c.means_a_world.ensures c.args.number does)
    c.apply.ensures

pub returns-clause-memory : goal.returns-clause-memory
returns-clause-memory g c =
    not-memory c.args.pen.now c.apply.new.pen (event.Remove c.args.number) c.apply.result c.means_a_world.ensures (λ taken. taken)
    c.apply.ensures
