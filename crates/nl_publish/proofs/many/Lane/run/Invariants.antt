use Rattle.nl_publish.specs.Jobs.{ArePlaced, IsLaterReader}
use Rattle.nl_publish.specs.Reading.{HasLearned}
use Rattle.nl_publish.proofs.many.Lane.run.Given as goal

abbrev pub invariant-loop-index : goal.invariant-loop-index
invariant-loop-index g l = record {
  later : IsLaterReader g.P.FileReader.known g.P.FileReader.with_known l.fn.self.reader l.self.reader;
  learned : HasLearned l.mount (g.P.FileReader.known l.self.reader);
  answers : ArePlaced l.mount l.jobs l.self.answers;
}
