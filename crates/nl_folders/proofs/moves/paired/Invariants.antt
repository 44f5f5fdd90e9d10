use Rattle.std.proofs.Common.{◌+◌, ◌-◌, ◌≤◌, length}
use Rattle.nl_folders.proofs.moves.paired.Given as goal

abbrev pub invariant-loop-at_gone : goal.invariant-loop-at_gone
invariant-loop-at_gone l = record {
  first : l.at_gone ≤ length l.gone;
  second : l.at_new ≤ length l.new;
}

abbrev pub decreases-loop-at_gone : goal.decreases-loop-at_gone
decreases-loop-at_gone l = (length l.gone - l.at_gone) + (length l.new - l.at_new)
