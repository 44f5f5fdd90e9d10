use Rattle.std.proofs.Common.{List, ℕ, inl, subst}
use Rattle.nl_types.specs.declared.event.Ask.TheVariants as ask
use Rattle.nl_types.specs.declared.event.Event.TheVariants as event
use Rattle.nl_types.specs.declared.reply.Answer.TheVariants as answer
use Rattle.nl_commit.specs.Layout.{Does, unshared}
use Rattle.nl_types.specs.Replies.{reply_with}
use Rattle.nl_lib.proofs.Answered.{has-answered, read-stays, stat-reply}
use Rattle.nl_lib.proofs.asks.stat.Goals as goal

pub stat_told-requires : goal.stat_told-requires
stat_told-requires g c =
    stat-reply c.args.pen.now c.applied.new.pen c.means_a_world.ensures c.in-Ok.path c.applied.result
    c.applied.ensures

pub returns : goal.returns
returns g c =
    let old = c.args.pen.now in
    let new = c.applied.new.pen in
    record {
      does =
          inl (subst (λ (path : List ℕ). Does unshared old (event.Read (ask.Stat path))
          (reply_with answer.Stat c.stat_told.result) new) c.in-Ok.ensures
          (has-answered answer.Stat old new (event.Read (ask.Stat c.in-Ok.path)) c.applied.result
          c.stat_told.result c.applied.ensures c.stat_told.ensures));
      same = read-stays old new (ask.Stat c.in-Ok.path) c.applied.result c.applied.ensures;
    }
