use Rattle.std.proofs.Common.{◌≡◌, ◌≤◌, ◌+◌, ◌++◌, length}
use Rattle.std.specs.Vec.Iter.{into_iter_items}
use Rattle.nl_files.specs.Private.Planned.{placed}
use Rattle.nl_files.proofs.plan.put_pages.Given as goal

abbrev pub invariant-loop-page : goal.invariant-loop-page
invariant-loop-page l = record {
  within : l.index + length (into_iter_items l.page-iterator) ≤ 262144;
  all : l.changes.items ++ placed l.index (into_iter_items l.page-iterator) ≡ placed 0 l.fn.pages.items;
}
