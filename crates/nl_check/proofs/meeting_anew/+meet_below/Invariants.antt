use Rattle.std.proofs.Common.{◌≡◌, ◌+◌, ◌-◌, ◌*◌, ◌<◌, ℕ, true, length}
use Rattle.std.specs.Option.{IsSome}
use Rattle.nl_types.specs.Blocks.Roots.{Root, Tree}
use Rattle.nl_blocktree.specs.FileShapes.{HasShape}
use Rattle.nl_check.specs.Private.BesideTrees.{HasDataUnder, IsMetAnew, StandAt, TellsOn}
use Rattle.nl_check.proofs.meeting_anew.+meet_below.Given as goal

abbrev pub decreases-meet_below : goal.decreases-meet_below
decreases-meet_below g l = l.level

abbrev pub invariant-loop-slot : goal.invariant-loop-slot
invariant-loop-slot g l =
    let pages = g.V.VRead.pages l.store in
    record {
      within : (v : ℕ) → IsSome (pages v) → v < length l.met;
      count : length l.met ≡ length l.initial.met;
      met : (height top offset : ℕ) (other : Root)
          → StandAt pages height top other l.level offset l.fn.number l.fn.beside → HasShape pages other
          → IsMetAnew pages (Tree height top) other (l.level - 1) (128 * offset) (128 * offset + l.slot)
          l.initial.met l.met;
      below : l.names ≡ true → (height top offset : ℕ) (other : Root)
          → StandAt pages height top other l.level offset l.fn.number l.fn.beside → HasShape pages other
          → HasDataUnder pages (Tree height top) (l.level - 1) (128 * offset) (128 * offset + l.slot);
      told : TellsOn l.initial.met l.initial.changed.items l.met l.changed.items;
    }
