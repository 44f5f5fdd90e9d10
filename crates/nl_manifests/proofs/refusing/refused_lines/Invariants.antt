use Rattle.std.proofs.Common.{◌≡◌, ◌++◌, drop}
use Rattle.nl_manifests.specs.Private.Opening.{refused_lines}
use Rattle.nl_manifests.proofs.refusing.refused_lines.Given as goal

abbrev pub invariant-loop-entry : goal.invariant-loop-entry
invariant-loop-entry l =
    l.refused ++ refused_lines l.tree.all.now (drop l.entry-index l.all.all.now) ≡ refused_lines l.tree.all.now l.all.all.now
