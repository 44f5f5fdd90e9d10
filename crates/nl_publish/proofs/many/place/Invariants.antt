use Rattle.std.specs.Vec.Iter.{into_iter_items}
use Rattle.nl_publish.specs.Jobs.{AreAnswers, ArePlaced}
use Rattle.nl_publish.proofs.many.place.Given as goal

abbrev pub invariant-loop-index : goal.invariant-loop-index
invariant-loop-index g l = record {
  next : (goal.iterator-loop-index g).can_next l.index-iterator;
  ends : (goal.iterator-loop-index g).is_finite l.index-iterator;
  found : ArePlaced l.mount l.jobs (into_iter_items l.index-iterator);
  answers : AreAnswers l.mount l.jobs l.answers;
}
