use Rattle.std.proofs.Common.{◌≡◌, drop}
use Rattle.nl_host.specs.Selections.{is_among}
use Rattle.nl_host.proofs.selection.is_among.Given as goal

abbrev pub invariant-loop-other : goal.invariant-loop-other
invariant-loop-other l =
    is_among (drop l.other-index l.all) l.one ≡ is_among l.all l.one
