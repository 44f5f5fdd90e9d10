use Rattle.std.proofs.Common.{List, ℕ, subst}
use Rattle.nl_types.specs.declared.event.Change.TheVariants as change
use Rattle.nl_types.specs.declared.event.Event.TheVariants as event
use Rattle.nl_lib.proofs.Answered.{change-lacking, rename-done}
use Rattle.nl_lib.proofs.Replies.{IsDone, done-replied}
use Rattle.nl_lib.proofs.files.rename.Goals as goal

pub returns : goal.returns
returns g c =
    let old = c.args.pen.now in
    let new = c.apply.new.pen in
    let from = c.args.from.now in
    let to = c.args.to.now in
    done-replied old new (event.Apply (change.Rename from to)) c.apply.result
    (rename-done old new c.means_a_world.ensures from to)
    (subst (λ (q : List ℕ). IsDone old (event.Apply (change.Rename from q)) c.apply.result new)
    c.in-Ok.ensures.second
    (subst (λ (p : List ℕ). IsDone old (event.Apply (change.Rename p c.in-Ok.to)) c.apply.result new)
    c.in-Ok.ensures.first c.apply.ensures))

pub returns-in_default : goal.returns-in_default
returns-in_default g c =
    change-lacking c.args.pen.now c.means_a_world.ensures (change.Rename c.args.from.now c.args.to.now)
