use Rattle.std.proofs.Common.{◌≡◌, ◌++◌}
use Rattle.std.specs.Prelude.{map}
use Rattle.std.specs.Vec.Iter.{into_iter_items}
use Rattle.nl_tree.specs.Reading.{named_of}
use Rattle.nl_tree.proofs.reading.named.Given as goal

-- the names so far, then those of the records that are left
abbrev pub invariant-loop-record : goal.invariant-loop-record
invariant-loop-record l = record {
  next : goal.iterator-loop-record.can_next l.record-iterator;
  ends : goal.iterator-loop-record.is_finite l.record-iterator;
  names : l.names ++ map named_of (into_iter_items l.record-iterator) ≡ map named_of l.fn.records.items;
}
