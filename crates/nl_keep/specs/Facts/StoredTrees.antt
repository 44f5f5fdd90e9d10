-- What is stored is kept, and a checkpoint has one tree.
use Rattle.std.proofs.Common.{◌≡◌, ℕ, List, [], ◌∷◌, ◌++◌, Some, refl, sym, ap, ◌∙◌, max, arith}
use Rattle.std.proofs.lemmas.Option.{same_Some}
use Rattle.std.specs.Ordering.{nat_cmp}
use Rattle.std.specs.FinMap.{find}
use Rattle.nl_types.specs.Plain.Trees.{Tree}
use Rattle.nl_types.specs.Plain.Worlds.{World, Copy, copy_at, latest_stamp}
use Rattle.nl_types.specs.Facts.NumberedLists.{AllBelow, AllBelow-top, find-push_same}
use Rattle.nl_keep.specs.Stored.{KeepsTree, StoresTree, snapshot_of}

-- what is stored is kept
pub stored_is_kept : (moment n : ℕ) (tree : Tree) (old new : World) → StoresTree moment n tree old new
    → copy_at new n ≡ Some (snapshot_of tree (max moment (latest_stamp old)))
stored_is_kept moment n tree old new stores =
    let copy = snapshot_of tree (max moment (latest_stamp old)) in
    let below : AllBelow n old.copies = AllBelow-top old.copies n (omega (arith, stores.number)) in
    let pushed : new.copies ≡ old.copies ++ (n, copy) ∷ [] =
    ap (λ (x : World). x.copies) stores.world
    ∙ ap (λ (k : ℕ). old.copies ++ (k, copy) ∷ []) (sym stores.number) in
    ap (λ (cs : List (ℕ × Copy)). find nat_cmp n cs) pushed ∙ find-push_same old.copies n copy below

-- a checkpoint has one tree
pub one_tree : (n : ℕ) (a b : Tree) (w : World) → KeepsTree n a w → KeepsTree n b w → a ≡ b
one_tree n a b w first other =
    let one : first.copy ≡ other.copy = same_Some first.copy other.copy (sym first.kept ∙ other.kept) in
    sym first.has ∙ ap (λ (c : Copy). c.tree) one ∙ other.has

-- the tree that was stored is what the checkpoint keeps
pub stored_tree : (moment n : ℕ) (tree : Tree) (old new : World) → StoresTree moment n tree old new
    → KeepsTree n tree new
stored_tree moment n tree old new stores = record {
  copy = snapshot_of tree (max moment (latest_stamp old));
  kept = stored_is_kept moment n tree old new stores;
  has = refl;
}
