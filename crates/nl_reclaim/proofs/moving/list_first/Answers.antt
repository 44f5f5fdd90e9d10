use Rattle.nl_types.specs.Blocks.Entries.{is_needed}
use Rattle.nl_reclaim.proofs.Calls.{front-inside}
use Rattle.nl_reclaim.proofs.moving.list_first.Goals as goal

pub returns-clause-movable : goal.returns-clause-movable
returns-clause-movable g c = record {
  there = c.requires.segment;
  closed = c.requires.closed;
  inside =
      front-inside (g.V.Vstore.store c.args.store.now)
      (is_needed (g.K.Keeping.kept c.args.keeping.now)) c.args.segment c.args.limit _
      c.in_ok-needed.ensures.first;
}
