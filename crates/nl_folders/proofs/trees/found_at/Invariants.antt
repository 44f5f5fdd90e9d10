use Rattle.std.proofs.Common.{◌≡◌, drop}
use Rattle.nl_types.specs.Plain.Trees.{lookup}
use Rattle.nl_folders.proofs.trees.found_at.Given as goal

abbrev pub invariant-loop-entry : goal.invariant-loop-entry
invariant-loop-entry l = lookup l.entries l.path ≡ lookup (drop l.entry-index l.entries) l.path
