use Rattle.std.proofs.Common.{◌≡◌, map, drop}
use Rattle.nl_commands.specs.NumberWords.{number_in}
use Rattle.nl_commands.specs.GivenOperands.{each_in}
use Rattle.nl_commands.proofs.WordLists.{behind}
use Rattle.nl_commands.proofs.operands.numbers_in.Given as goal

-- the items so far, and those of the words that are left, are those of all words
abbrev pub invariant-loop-word : goal.invariant-loop-word
invariant-loop-word l =
    each_in number_in (map (λ w. w.now) l.words)
    ≡ behind l.numbers (each_in number_in (map (λ w. w.now) (drop l.word-index l.words)))
