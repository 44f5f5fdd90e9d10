use Rattle.nl_types.specs.declared.event.Event.TheVariants as event
use Rattle.nl_types.specs.declared.reply.Answer.TheVariants as answer
use Rattle.nl_lib.proofs.Answered.{has-answered, range-reply}
use Rattle.nl_lib.proofs.changes.remove_checkpoints.Goals as goal

pub range_removed-requires : goal.range_removed-requires
range_removed-requires g c =
    range-reply c.args.pen.now c.applied.new.pen c.means_a_world.ensures c.args.first c.args.last c.applied.result
    c.applied.ensures

pub returns : goal.returns
returns g c =
    has-answered answer.Removed c.args.pen.now c.applied.new.pen (event.RemoveRange c.args.first c.args.last)
    c.applied.result c.range_removed.result c.applied.ensures c.range_removed.ensures
