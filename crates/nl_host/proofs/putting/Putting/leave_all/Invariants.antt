use Rattle.std.proofs.Common.{◌≡◌, ◌-◌, [], length}
use Rattle.nl_host.specs.Puts.{Asked}
use Rattle.nl_host.specs.Standing.{Stands}
use Rattle.nl_host.proofs.putting.Putting.leave_all.Given as goal

abbrev pub invariant-loop : goal.invariant-loop
invariant-loop g l = record {
  stands : Stands l.self.tree.now l.self.here.now l.self.first l.self.due.items (g.L.Laying.trail l.site);
  tree : l.self.tree.now ≡ l.fn.self.tree.now;
  depth : length l.self.here.now ≡ length l.fn.self.here.now - l.counter;
  asked : Asked l.fn.self.tree.now [] (g.L.Laying.asked l.fn.site) (g.L.Laying.asked l.site);
  refused : l.laid.refused ≡ l.fn.laid.refused;
}
