use Rattle.std.proofs.Common.{List, ℕ, subst}
use Rattle.nl_types.specs.declared.event.Change.TheVariants as change
use Rattle.nl_types.specs.declared.event.Event.TheVariants as event
use Rattle.nl_types.specs.declared.reply.Answer.TheVariants as answer
use Rattle.nl_types.specs.Plain.Worlds.{Reply}
use Rattle.nl_commit.specs.Layout.{Does, unshared}
use Rattle.nl_types.specs.Replies.{reply_with}
use Rattle.nl_lib.proofs.Answered.{change-lacking, has-answered, write-reply}
use Rattle.nl_lib.proofs.files.write.Goals as goal

pub written-requires : goal.written-requires
written-requires g c =
    write-reply c.args.pen.now c.applied.new.pen c.means_a_world.ensures c.in-Ok.path c.args.offset c.in-Ok.bytes
    c.applied.result c.applied.ensures

pub returns : goal.returns
returns g c =
    let old = c.args.pen.now in
    let new = c.applied.new.pen in
    let reply : Reply = reply_with answer.Written c.written.result in
    subst (λ (bytes : List ℕ).
    Does unshared old (event.Apply (change.Write c.args.path.now c.args.offset bytes)) reply new)
    c.in-Ok.ensures.second
    (subst (λ (path : List ℕ).
    Does unshared old (event.Apply (change.Write path c.args.offset c.in-Ok.bytes)) reply new)
    c.in-Ok.ensures.first
    (has-answered answer.Written old new
    (event.Apply (change.Write c.in-Ok.path c.args.offset c.in-Ok.bytes)) c.applied.result c.written.result
    c.applied.ensures c.written.ensures))

pub returns-in_default : goal.returns-in_default
returns-in_default g c =
    change-lacking c.args.pen.now c.means_a_world.ensures
    (change.Write c.args.path.now c.args.offset c.args.bytes.now)
