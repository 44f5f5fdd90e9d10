use Rattle.std.proofs.Common.{◌≡◌}
use Rattle.nl_device.specs.Failures.{CountsReads}
use Rattle.nl_vstore.specs.FactsOfSpace.ImageBlocks.{AreDumped}
use Rattle.nl_vstore.proofs.images.dump.Given as goal

abbrev pub invariant-loop-number : goal.invariant-loop-number
invariant-loop-number g l = record {
  dumped : AreDumped (g.S.Space.content l.fn.space) l.fn.out l.out l.number;
  same : g.S.Space.content l.space ≡ g.S.Space.content l.fn.space;
  counted : CountsReads (g.S.Space.failed l.fn.space) (g.S.Space.failed l.space);
}
