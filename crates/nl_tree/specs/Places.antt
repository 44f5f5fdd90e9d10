-- What an overlay counts as it changes: of each inode with a place, how many blocks a checkpoint writes of it
-- at most, where the places in which nothing shows count as blocks too.
use Rattle.std.specs.Prelude.{◌≡◌, ℕ, ◌+◌, ◌/◌, List, [], ◌∷◌, length}
use Rattle.nl_tree.specs.declared.overlay.Changed.{Changed}
use Rattle.nl_tree.specs.declared.overlay.Changed.TheVariants.{Gone, File, Dir}
use Rattle.nl_tree.specs.declared.overlay.Slot.{Slot}
use Rattle.nl_tree.specs.Weights.{IsNoLess, capped, nodes_above}

-- the block that has the inode, its places, and the nodes above all blocks
abbrev pub places_of : Changed → ℕ
places_of Gone = 1
places_of (File file) = 1 + length file.pages.entries + nodes_above ((file.size + 1023) / 1024)
places_of (Dir listing) = 1 + length listing.map.entries + nodes_above (length listing.map.entries)

abbrev pub all_places : List (ℕ × Slot) → ℕ
all_places [] = 0
all_places (e ∷ es) = places_of e.1.what + all_places es

-- where one part changes and the rest stays, the sum is no less than all still
abbrev pub Recounts : (sum new was now : ℕ) → Type 0
Recounts sum new was now =
    (before after rest : ℕ) → was ≡ capped before → now ≡ capped after
    → IsNoLess (before + rest) sum → IsNoLess (after + rest) new
