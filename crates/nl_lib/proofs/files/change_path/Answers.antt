use Rattle.std.proofs.Common.{ap, ◌∙◌, subst}
use Rattle.nl_types.specs.declared.event.Change.{Change}
use Rattle.nl_types.specs.declared.event.Event.TheVariants as event
use Rattle.nl_types.specs.Changes.{change_at}
use Rattle.nl_lib.proofs.Answered.{change-lacking, path-done}
use Rattle.nl_lib.proofs.Replies.{IsDone, done-replied}
use Rattle.nl_lib.proofs.files.change_path.Goals as goal

pub returns : goal.returns
returns g c =
    let old = c.args.pen.now in
    let new = c.apply.new.pen in
    let path = c.args.path.now in
    done-replied old new (event.Apply (change_at c.args.call path)) c.apply.result
    (path-done old new c.means_a_world.ensures c.args.call path)
    (subst (λ (d : Change). IsDone old (event.Apply d) c.apply.result new)
    (c.change.ensures ∙ ap (change_at c.args.call) c.in-Ok.ensures) c.apply.ensures)

pub returns-in_default : goal.returns-in_default
returns-in_default g c =
    change-lacking c.args.pen.now c.means_a_world.ensures (change_at c.args.call c.args.path.now)
