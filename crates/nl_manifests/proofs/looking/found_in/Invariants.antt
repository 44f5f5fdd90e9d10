use Rattle.std.proofs.Common.{◌≡◌, drop}
use Rattle.std.specs.FinMap.{find}
use Rattle.nl_types.specs.Plain.Paths.{path_cmp}
use Rattle.nl_manifests.proofs.looking.found_in.Given as goal

abbrev pub invariant-loop-entry : goal.invariant-loop-entry
invariant-loop-entry g l = find path_cmp l.path l.entries ≡ find path_cmp l.path (drop l.entry-index
    l.entries)
