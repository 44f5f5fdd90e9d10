use Rattle.std.proofs.Common.{◌≡◌, ◌++◌}
use Rattle.std.specs.Vec.Iter.{into_iter_items}
use Rattle.nl_shown.specs.Private.Inserting.{before_path, behind_path}
use Rattle.nl_shown.proofs.reverting.parted.Given as goal

abbrev pub invariant-loop-entry : goal.invariant-loop-entry
invariant-loop-entry l = record {
  before : l.before ++ before_path l.path (into_iter_items l.entry-iterator) ≡ before_path l.path l.fn.tree;
  behind : l.behind ++ behind_path l.path (into_iter_items l.entry-iterator) ≡ behind_path l.path l.fn.tree;
}
