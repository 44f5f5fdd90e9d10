use Rattle.std.proofs.Common.{◌≡◌, map, take}
use Rattle.nl_commands.proofs.operands.paths_in.Given as goal

-- the paths so far are the words so far
abbrev pub invariant-loop-word : goal.invariant-loop-word
invariant-loop-word l = l.paths ≡ map (λ w. w.now) (take l.word-index l.words)
