use Rattle.std.proofs.Common.{◌≡◌, ◌*◌, ◌<◌, ℕ, length}
use Rattle.std.specs.Option.{IsSome}
use Rattle.nl_layout.specs.Root.{root_of}
use Rattle.nl_check.specs.Private.Walks.{AreKnown, IsBlockOf}
use Rattle.nl_check.proofs.shape.walk_inodes.Given as goal

abbrev pub invariant-loop-index : goal.invariant-loop-index
invariant-loop-index g l =
    let pages = g.V.VRead.pages l.store in
    record {
      store : l.cursor.store.now ≡ l.store;
      root : l.cursor.root ≡ l.root;
      count : length l.found.met ≡ length l.initial.found.met;
      within : (v : ℕ) → IsSome (pages v) → v < length l.found.met;
      known : AreKnown pages (root_of l.root) (8 * l.index) l.found.met l.found.kinds l.sound;
      blocks : (i : ℕ) → i < l.index → IsBlockOf pages (root_of l.root) i;
    }
