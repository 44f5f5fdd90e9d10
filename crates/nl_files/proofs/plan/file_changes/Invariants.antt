use Rattle.std.proofs.Common.{◌≡◌, ◌++◌}
use Rattle.nl_tree.specs.Overlays.{new_pages}
use Rattle.nl_tree.specs.Shown.{itself, pair, shown_entries}
use Rattle.nl_files.specs.Private.Planned.{merged}
use Rattle.nl_files.proofs.plan.file_changes.Given as goal

abbrev pub invariant-loop-index : goal.invariant-loop-index
invariant-loop-index l =
    l.changes.items ++ merged l.next l.count (shown_entries pair itself l.index-iterator)
    ≡ merged l.cut l.count (new_pages l.file)
