use Rattle.nl_types.specs.declared.event.Event.TheVariants as event
use Rattle.nl_types.specs.declared.reply.Answer.TheVariants as answer
use Rattle.nl_lib.proofs.Answered.{has-answered, listing-stays, rows-reply}
use Rattle.nl_lib.proofs.asks.listing.Goals as goal

pub rows_listed-requires : goal.rows_listed-requires
rows_listed-requires g c =
    rows-reply c.args.pen.now c.applied.new.pen c.means_a_world.ensures c.args.options.now c.applied.result
    c.applied.ensures

pub returns : goal.returns
returns g c =
    let old = c.args.pen.now in
    let new = c.applied.new.pen in
    record {
      does =
          has-answered answer.Rows old new (event.Listing c.args.options.now) c.applied.result
          c.rows_listed.result c.applied.ensures c.rows_listed.ensures;
      same = listing-stays old new c.args.options.now c.applied.result c.applied.ensures;
    }
