use Rattle.std.proofs.Common.{◌≡◌, ◌≤◌}
use Rattle.nl_types.specs.Blocks.Entries.{is_needed}
use Rattle.nl_vstore.specs.Located.{needs}
use Rattle.nl_vstore.specs.Stores.{content_in}
use Rattle.nl_reclaim.specs.PrivateCounts.Listed.{AreListed, HasLetGoAll}
use Rattle.nl_reclaim.proofs.letting_go.let_go.Given as goal

abbrev pub invariant-loop-index : goal.invariant-loop-index
invariant-loop-index g l = record {
  low : l.from ≤ l.index;
  high : l.index ≤ l.to;
  listed : AreListed (g.V.Vstore.store l.store) l.counts l.ends.ended;
  gone : HasLetGoAll
      (needs (is_needed (g.K.Keeping.kept l.keeping)) (content_in (g.V.Vstore.store l.store))) l.from l.index
      l.fn.ends.ended l.ends.ended;
  room : l.ends.room ≡ l.fn.ends.room;
}
