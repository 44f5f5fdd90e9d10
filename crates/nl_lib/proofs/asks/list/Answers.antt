use Rattle.std.proofs.Common.{List, ℕ, subst}
use Rattle.nl_types.specs.declared.event.Ask.TheVariants as ask
use Rattle.nl_types.specs.declared.event.Event.TheVariants as event
use Rattle.nl_types.specs.declared.reply.Answer.TheVariants as answer
use Rattle.nl_commit.specs.Layout.{Does, unshared}
use Rattle.nl_types.specs.Replies.{reply_with}
use Rattle.nl_lib.proofs.Answered.{has-answered, names-reply, read-lacking, read-stays}
use Rattle.nl_lib.proofs.asks.list.Goals as goal

pub names_listed-requires : goal.names_listed-requires
names_listed-requires g c =
    names-reply c.args.pen.now c.applied.new.pen c.means_a_world.ensures c.in-Ok.path c.applied.result
    c.applied.ensures

pub returns : goal.returns
returns g c =
    let old = c.args.pen.now in
    let new = c.applied.new.pen in
    record {
      does =
          subst (λ (path : List ℕ). Does unshared old (event.Read (ask.List path))
          (reply_with answer.Names c.names_listed.result) new) c.in-Ok.ensures
          (has-answered answer.Names old new (event.Read (ask.List c.in-Ok.path)) c.applied.result
          c.names_listed.result c.applied.ensures c.names_listed.ensures);
      same = read-stays old new (ask.List c.in-Ok.path) c.applied.result c.applied.ensures;
    }

pub returns-in_default-clause-does : goal.returns-in_default-clause-does
returns-in_default-clause-does g c =
    read-lacking c.args.pen.now c.means_a_world.ensures (ask.List c.args.path.now) tt
