-- What storing a tree does to a world, and what a checkpoint keeps.
use Rattle.std.specs.Prelude.{◌≡◌, ℕ, ◌+◌, max, false, [], ◌∷◌, ◌++◌, Some}
use Rattle.nl_types.specs.declared.event.Mode.TheVariants.{Snapshot}
use Rattle.nl_types.specs.Plain.Trees.{Tree}
use Rattle.nl_types.specs.Plain.Worlds.{World, Copy, copy_at, latest, latest_stamp}

-- checkpoint n is kept
abbrev pub IsKept : ℕ → World → Type 0
IsKept n w = (copy : Copy) × (copy_at w n ≡ Some copy)

-- checkpoint n is kept, and the tree is its tree
pub record KeepsTree (n : ℕ) (tree : Tree) (w : World) : Type 0 where
  pub copy : Copy
  pub kept : copy_at w n ≡ Some copy
  pub has : copy.tree ≡ tree

-- nothing has changed but the current tree and whether it is dirty
pub record ChangesTreeAlone (old new : World) : Type 0 where
  pub copies : new.copies ≡ old.copies
  pub mounts : new.mounts ≡ old.mounts
  pub given : new.given ≡ old.given

-- ---- snapshots

-- a snapshot of a tree
abbrev pub snapshot_of : Tree → (stamp : ℕ) → Copy
snapshot_of tree stamp = record { tree = tree; mode = Snapshot; minor = false; stamp = stamp }

-- The world with the tree as its current one, which is kept as the snapshot of the next number, beside the
-- copies that there were, each as it was. The stamp is the moment, or the latest one where that is later.
-- Nothing is dirty, and mounts are as they were.
abbrev pub with_stored : (moment : ℕ) → Tree → World → World
with_stored moment tree w = record {
  tree = tree;
  dirty = false;
  copies = w.copies ++ (latest w + 1, snapshot_of tree (max moment (latest_stamp w))) ∷ [];
  mounts = w.mounts;
  given = w.given;
}

-- the tree is stored as snapshot n
pub record StoresTree (moment n : ℕ) (tree : Tree) (old new : World) : Type 0 where
  pub number : n ≡ latest old + 1
  pub world : new ≡ with_stored moment tree old

-- the wanted tree is, where the earlier one was current
abbrev pub StoresOver : (moment n : ℕ) → (earlier wanted : Tree) → World → World → Type 0
StoresOver moment n earlier wanted old new = old.tree ≡ earlier → StoresTree moment n wanted old new

-- the current tree is
abbrev pub TakesSnapshot : (moment n : ℕ) → World → World → Type 0
TakesSnapshot moment n old new = StoresTree moment n old.tree old new
