use Rattle.std.proofs.Common.{◌≡◌, drop}
use Rattle.nl_host.specs.Selections.{mean}
use Rattle.nl_host.proofs.selection.Selection.excludes.Given as goal

abbrev pub invariant-loop-pattern : goal.invariant-loop-pattern
invariant-loop-pattern l =
    mean (drop l.pattern-index l.excluded) l.path l.name ≡ mean l.excluded l.path l.name
