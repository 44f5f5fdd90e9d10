use Rattle.std.proofs.Common.{◌≡◌, [], length}
use Rattle.nl_host.specs.Puts.{Asked}
use Rattle.nl_host.specs.Standing.{KeepsAbove, Stands}
use Rattle.nl_host.proofs.putting.Putting.leave_up_to.Given as goal

abbrev pub invariant-loop-self : goal.invariant-loop-self
invariant-loop-self g l = record {
  stands : Stands l.self.tree.now l.self.here.now l.self.first l.self.due.items (g.L.Laying.trail l.site);
  tree : l.self.tree.now ≡ l.fn.self.tree.now;
  asked : Asked l.fn.self.tree.now [] (g.L.Laying.asked l.fn.site) (g.L.Laying.asked l.site);
  refused : l.laid.refused ≡ l.fn.laid.refused;
  keeps : KeepsAbove l.path l.fn.self.here.now l.self.here.now;
}

abbrev pub decreases-loop-self : goal.decreases-loop-self
decreases-loop-self g l = length l.self.here.now
