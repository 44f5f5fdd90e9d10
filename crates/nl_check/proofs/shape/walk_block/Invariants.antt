use Rattle.std.proofs.Common.{◌≡◌, ◌+◌, ◌*◌, ◌<◌, ℕ, Some, length}
use Rattle.std.specs.Option.{IsSome}
use Rattle.nl_types.specs.Blocks.Roots.{Root, page_at}
use Rattle.nl_check.specs.Private.Walks.{AreKnown}
use Rattle.nl_check.proofs.shape.walk_block.Given as goal

abbrev pub invariant-loop-place : goal.invariant-loop-place
invariant-loop-place g l =
    let pages = g.V.VRead.pages l.store in
    record {
      count : length l.found.met ≡ length l.initial.found.met;
      within : (v : ℕ) → IsSome (pages v) → v < length l.found.met;
      known : (root : Root) → page_at pages root l.index ≡ Some l.page
          → AreKnown pages root (8 * l.index) l.initial.found.met l.initial.found.kinds l.fn.sound
          → AreKnown pages root (8 * l.index + l.place) l.found.met l.found.kinds l.are_sound;
    }
