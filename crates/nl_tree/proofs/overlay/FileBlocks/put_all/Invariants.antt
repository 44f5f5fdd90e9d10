use Rattle.std.proofs.Common.{◌≡◌, ℕ, ◌+◌, ◌<◌, ◌≤◌, length}
use Rattle.std.specs.Vec.Iter.{into_iter_items}
use Rattle.nl_tree.specs.Overlays.{new_page_at}
use Rattle.std.specs.Ordering.{nat_cmp}
use Rattle.std.specs.BTreeMap as map
use Rattle.nl_tree.specs.Private.Pages.{HasPage, put_from}
use Rattle.nl_tree.proofs.overlay.FileBlocks.put_all.Given as goal

abbrev pub invariant-loop-page : goal.invariant-loop-page
invariant-loop-page l =
    ((b : ℕ)
    → put_from l.index (into_iter_items l.page-iterator) (new_page_at l.self) b
    ≡ put_from l.fn.first l.fn.pages.items (new_page_at l.initial.self) b)
    × ((i : ℕ) → l.index ≤ i → i < l.index + length (into_iter_items l.page-iterator) → HasPage l.self i)
    × (l.index + length (into_iter_items l.page-iterator) ≡ l.fn.first + length l.fn.pages.items)
    × (l.self.size ≡ l.initial.self.size) × (l.self.cut ≡ l.initial.self.cut)
    × (map.IsOrdered nat_cmp l.initial.self.pages → map.IsOrdered nat_cmp l.self.pages)
