use Rattle.nl_types.specs.declared.event.Event.TheVariants as event
use Rattle.nl_lib.proofs.Replies.{done-replied}
use Rattle.nl_lib.proofs.changes.resize.Goals as goal

pub returns : goal.returns
returns g c =
    record {
      does =
          done-replied c.args.pen.now c.apply.new.pen (event.Resize c.args.segments) c.apply.result
          (λ found does. does.becomes.1.answer_is)
          c.apply.ensures;
    }
