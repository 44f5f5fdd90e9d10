use Rattle.std.proofs.Common.{◌≡◌, map, take}
use Rattle.nl_folders.specs.Private.Moved.{cut}
use Rattle.nl_folders.proofs.moves.are_same_below.Given as goal

abbrev pub invariant-loop-place : goal.invariant-loop-place
invariant-loop-place l =
    map (cut l.one_cut) (take l.place l.one) ≡ map (cut l.other_cut) (take l.place l.other)
