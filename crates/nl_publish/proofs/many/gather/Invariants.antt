use Rattle.std.proofs.Common.{◌≡◌, length}
use Rattle.nl_publish.specs.Jobs.{AreAnswers}
use Rattle.nl_publish.proofs.Lanes.{emptied, first_back, first_of}
use Rattle.nl_publish.proofs.many.gather.Given as goal

abbrev pub invariant-loop-index : goal.invariant-loop-index
invariant-loop-index g l = record {
  count : length l.lanes ≡ length l.fn.readers;
  same : length l.readers ≡ length l.fn.readers;
  readers : l.readers
      ≡ first_back g.P.FileReader.joined g.P.FileReader.taken g.P.FileReader.left l.index l.fn.readers
      l.fn.lanes;
  lanes : l.lanes
      ≡ first_of (emptied g.P.FileReader.joined g.P.FileReader.taken g.P.FileReader.left) l.index l.fn.lanes;
  answers : AreAnswers l.mount l.jobs l.answers;
}
