use Rattle.std.proofs.Common.{◌≡◌, ◌+◌, ◌++◌, take}
use Rattle.nl_reclaim.specs.EndLists.{noted_ends}
use Rattle.nl_reclaim.proofs.ends.Ends.note.Given as goal

abbrev pub invariant-loop-number : goal.invariant-loop-number
invariant-loop-number l = record {
  ended : l.self.ended ≡ l.initial.self.ended ++ noted_ends l.end (take l.number-index l.numbers);
  room : l.self.room + l.number-index ≡ l.initial.self.room;
}
