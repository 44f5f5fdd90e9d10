use Rattle.std.proofs.Common.{◌≡◌, ◌++◌, drop}
use Rattle.std.specs.List.{flat_map}
use Rattle.nl_manifests.specs.Manifests.{line_text}
use Rattle.nl_manifests.proofs.printing.put_lines.Given as goal

abbrev pub invariant-loop-line : goal.invariant-loop-line
invariant-loop-line l =
    l.out.items ++ flat_map line_text (drop l.line-index l.lines) ≡ l.fn.out.items ++ flat_map line_text
    l.lines
