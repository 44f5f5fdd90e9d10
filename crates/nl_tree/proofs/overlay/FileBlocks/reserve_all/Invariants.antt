use Rattle.std.proofs.Common.{ℕ, ◌<◌, ◌≤◌}
use Rattle.std.specs.Ordering.{nat_cmp}
use Rattle.std.specs.BTreeMap as map
use Rattle.nl_tree.specs.Private.Pages.{HasPage, IsSameFile}
use Rattle.nl_tree.proofs.overlay.FileBlocks.reserve_all.Given as goal

abbrev pub invariant-loop-index : goal.invariant-loop-index
invariant-loop-index l =
    IsSameFile l.initial.self l.self × ((i : ℕ) → l.fn.first ≤ i → i < l.index → HasPage l.self i)
    × (map.IsOrdered nat_cmp l.initial.self.pages → map.IsOrdered nat_cmp l.self.pages)
