use Rattle.std.proofs.Common.{◌≡◌, ◌++◌, drop, map}
use Rattle.std.specs.List.{flat_map}
use Rattle.nl_host.specs.HostPaths.{link_left_out, told_of}
use Rattle.nl_host.proofs.laying_out.note_links.Given as goal

abbrev pub invariant-loop-entry : goal.invariant-loop-entry
invariant-loop-entry l =
    map told_of l.left_out.items ++ flat_map (λ e. link_left_out l.folder e.0 e.1.object) (drop l.entry-index l.entries)
    ≡ map told_of l.fn.left_out.items ++ flat_map (λ e. link_left_out l.folder e.0 e.1.object) l.entries
