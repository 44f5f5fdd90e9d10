use Rattle.std.proofs.Common.{◌≡◌}
use Rattle.std.specs.Vec.Iter.{into_iter_items}
use Rattle.nl_commit.specs.Commits.{with_births}
use Rattle.nl_publish.proofs.tables.enter_births.Given as goal

-- with the births that are left, the table is the one that is promised
abbrev pub invariant-loop-birth : goal.invariant-loop-birth
invariant-loop-birth l = record {
  next : goal.iterator-loop-birth.can_next l.birth-iterator;
  ends : goal.iterator-loop-birth.is_finite l.birth-iterator;
  numbers : with_births l.checkpoint (into_iter_items l.birth-iterator) l.numbers
      ≡ with_births l.checkpoint l.fn.births.items l.fn.numbers;
}
