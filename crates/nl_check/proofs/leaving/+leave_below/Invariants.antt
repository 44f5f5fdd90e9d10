use Rattle.std.proofs.Common.{◌≡◌, ◌+◌, ◌-◌, ◌*◌, ℕ, length}
use Rattle.nl_types.specs.Blocks.Roots.{Root}
use Rattle.nl_check.specs.Private.BesideTrees.{StandAt, TellsOn}
use Rattle.nl_check.proofs.LeftTrees.{LeftUnder}
use Rattle.nl_check.proofs.leaving.+leave_below.Given as goal

abbrev pub decreases-leave_below : goal.decreases-leave_below
decreases-leave_below g l = l.level

abbrev pub invariant-loop-slot : goal.invariant-loop-slot
invariant-loop-slot g l =
    let pages = g.V.VRead.pages l.store in
    record {
      count : length l.met ≡ length l.initial.met;
      left : (height top offset : ℕ) (other : Root)
          → StandAt pages height top other l.level offset l.fn.number l.fn.beside
          → LeftUnder pages height top other (l.level - 1) (128 * offset) (128 * offset + l.slot)
          l.initial.met l.met;
      told : TellsOn l.initial.met l.initial.changed.items l.met l.changed.items;
    }
