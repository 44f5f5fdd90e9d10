use Rattle.std.proofs.Common.{List, ℕ, subst}
use Rattle.nl_types.specs.declared.event.Ask.{Ask}
use Rattle.nl_types.specs.declared.event.Ask.TheVariants as ask
use Rattle.nl_types.specs.declared.event.Event.TheVariants as event
use Rattle.nl_types.specs.declared.reply.Answer.TheVariants as answer
use Rattle.nl_commit.specs.Layout.{Does, unshared}
use Rattle.nl_types.specs.Replies.{reply_with}
use Rattle.nl_lib.proofs.Answered.{bytes-reply, has-answered, read-lacking, read-stays}
use Rattle.nl_lib.proofs.asks.read.Goals as goal

pub bytes_read-requires : goal.bytes_read-requires
bytes_read-requires g c =
    bytes-reply c.args.pen.now c.applied.new.pen c.means_a_world.ensures c.in-Ok.path c.args.offset c.args.len
    c.applied.result c.applied.ensures

pub returns : goal.returns
returns g c =
    let old = c.args.pen.now in
    let new = c.applied.new.pen in
    let asked : Ask = ask.Bytes c.in-Ok.path c.args.offset c.args.len in
    record {
      does =
          subst (λ (path : List ℕ). Does unshared old (event.Read (ask.Bytes path c.args.offset c.args.len))
          (reply_with answer.Bytes c.bytes_read.result) new) c.in-Ok.ensures
          (has-answered answer.Bytes old new (event.Read asked) c.applied.result c.bytes_read.result
          c.applied.ensures c.bytes_read.ensures);
      same = read-stays old new asked c.applied.result c.applied.ensures;
    }

pub returns-in_default-clause-does : goal.returns-in_default-clause-does
returns-in_default-clause-does g c =
    read-lacking c.args.pen.now c.means_a_world.ensures (ask.Bytes c.args.path.now c.args.offset c.args.len) tt
