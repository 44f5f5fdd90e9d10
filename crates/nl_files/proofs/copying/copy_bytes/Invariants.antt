use Rattle.std.proofs.Common.{◌≡◌, ℕ, ◌+◌, ◌-◌, ◌<◌, ◌≤◌, length, slice_index}
use Rattle.nl_types.specs.Blocks.Roots.{page_at}
use Rattle.nl_layout.specs.Root.{root_of}
use Rattle.nl_tree.specs.Held.{byte_stored}
use Rattle.nl_files.proofs.copying.copy_bytes.Given as goal

abbrev pub invariant-loop-done : goal.invariant-loop-done
invariant-loop-done g l = record {
  store : l.cursor.store.now ≡ l.store;
  root : l.cursor.root ≡ l.fn.root;
  within : l.done ≤ length l.into;
  copied : (k : ℕ) → k < l.done
      → slice_index l.into k
      ≡ byte_stored (page_at (g.V.VRead.pages l.store) (root_of l.fn.root)) (l.offset + k);
}

abbrev pub decreases-loop-done : goal.decreases-loop-done
decreases-loop-done g l = length l.initial.into - l.done
