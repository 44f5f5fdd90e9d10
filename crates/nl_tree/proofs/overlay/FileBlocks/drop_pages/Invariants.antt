use Rattle.std.proofs.Common.{◌≡◌, ◌<◌, ℕ}
use Rattle.std.specs.Ordering.{nat_cmp}
use Rattle.std.specs.BTreeMap as map
use Rattle.nl_tree.specs.Overlays.{new_page_at}
use Rattle.nl_tree.proofs.overlay.FileBlocks.drop_pages.Given as goal

abbrev pub invariant-loop-last : goal.invariant-loop-last
invariant-loop-last l = record {
  kept : (b : ℕ) → b < l.count → new_page_at l.self b ≡ new_page_at l.initial.self b;
  ordered : map.IsOrdered nat_cmp l.initial.self.pages → map.IsOrdered nat_cmp l.self.pages;
  size : l.self.size ≡ l.initial.self.size;
  cut : l.self.cut ≡ l.initial.self.cut;
}

abbrev pub decreases-loop-last : goal.decreases-loop-last
decreases-loop-last l = map.btree_map_len l.self.pages
