use Rattle.std.proofs.Common.{◌≡◌, ◌≤◌, [], true, vec_len}
use Rattle.nl_host.specs.Puts.{AsksOnly, is_walk}
use Rattle.nl_host.specs.Standing.{LaysFirst, Stands}
use Rattle.nl_host.proofs.putting.Putting.lay_all.Given as goal

abbrev pub invariant-loop-entry : goal.invariant-loop-entry
invariant-loop-entry g l = record {
  stands : Stands l.self.tree.now l.self.here.now l.self.first l.self.due.items (g.L.Laying.trail l.site);
  tree : l.self.tree.now ≡ l.fn.self.tree.now;
  asked : AsksOnly l.fn.self.tree.now (g.L.Laying.asked l.fn.site) (g.L.Laying.asked l.site);
  refused : vec_len l.fn.laid.refused ≤ vec_len l.laid.refused;
  order : vec_len l.laid.refused ≡ vec_len l.fn.laid.refused → is_walk [] l.fn.self.tree.now ≡ true
      → LaysFirst l.fn.self.tree.now l.entry-index (g.L.Laying.asked l.fn.site) (g.L.Laying.asked l.site) l.self.here.now;
}
