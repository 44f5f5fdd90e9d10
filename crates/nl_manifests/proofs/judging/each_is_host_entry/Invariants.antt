use Rattle.std.proofs.Common.{◌≡◌, drop}
use Rattle.std.specs.List.{list_all}
use Rattle.nl_manifests.specs.Sealed.{is_host_entry}
use Rattle.nl_manifests.proofs.judging.each_is_host_entry.Given as goal

abbrev pub invariant-loop-entry : goal.invariant-loop-entry
invariant-loop-entry l =
    list_all (is_host_entry l.tree.all.now) l.entries
    ≡ list_all (is_host_entry l.tree.all.now) (drop l.entry-index l.entries)
