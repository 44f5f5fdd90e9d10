use Rattle.std.proofs.Common.{◌≡◌, ◌≤◌, length, take}
use Rattle.std.specs.Prelude.{map}
use Rattle.nl_publish.specs.Jobs.{idle}
use Rattle.nl_publish.proofs.Lanes.{first_of}
use Rattle.nl_publish.proofs.many.fill_lanes.Given as goal

abbrev pub invariant-loop-index : goal.invariant-loop-index
invariant-loop-index g l = record {
  same : length l.readers ≡ length l.fn.readers;
  readers : l.readers ≡ first_of g.P.FileReader.left l.index l.fn.readers;
  count : length l.lanes.items ≡ l.index;
  room : length l.fn.readers ≤ l.lanes.cap;
  lanes : l.lanes.items ≡ map (idle g.P.FileReader.taken) (take l.index l.fn.readers);
}
