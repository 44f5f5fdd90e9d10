-- The new blocks of a changed file.
use Rattle.std.specs.Prelude.{◌≡◌, ◌==◌, ◌+◌, ℕ, cond, List, [], ◌∷◌, IsSome, Some, None, ◌/◌, nat_lt}
use Rattle.std.specs.Ordering.{nat_cmp}
use Rattle.std.specs.BTreeMap as map
use Rattle.nl_types.specs.Blocks.Roots.{Blocks}
use Rattle.nl_tree.specs.declared.overlay.FileBlocks.{FileBlocks}
use Rattle.nl_tree.specs.Overlays.{new_page_at, new_pages}

-- a place is kept for the block
abbrev pub HasPage : FileBlocks → ℕ → Type 0
HasPage file b = IsSome (map.get nat_cmp file.pages b)

-- the two show the same
pub record IsSameFile (file new : FileBlocks) : Type 0 where
  pub pages : new_pages new ≡ new_pages file
  pub blocks : (b : ℕ) → new_page_at new b ≡ new_page_at file b
  pub size : new.size ≡ file.size
  pub cut : new.cut ≡ file.cut

-- pages put one behind the other
abbrev pub put_from : ℕ → List (List ℕ) → Blocks → Blocks
put_from first [] blocks b = blocks b
put_from first (page ∷ pages) blocks b =
    put_from (first + 1) pages (λ c. cond (c == first) (Some page) (blocks c)) b

-- the blocks below an index
abbrev pub blocks_below : ℕ → Blocks → Blocks
blocks_below count blocks b = cond (nat_lt b count) (blocks b) None

-- how many blocks a file of a size has at most
abbrev pub blocks_for : ℕ → ℕ
blocks_for size = (size + 1023) / 1024
