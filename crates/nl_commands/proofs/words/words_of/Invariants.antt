use Rattle.std.proofs.Common.{ℕ, List, length, map}
use denote.Text.{Utf8}
use denote.Shadow.{shadow}
use Rattle.nl_commands.specs.Splitting.{IsTrimmed, BeginsWith}
use Rattle.nl_commands.proofs.words.words_of.Given as goal

-- the words so far, and the text that begins with the next one
abbrev pub invariant-loop-rest : goal.invariant-loop-rest
invariant-loop-rest l =
    shadow (Utf8 l.rest)
    × ((left : List ℕ) × BeginsWith l.line (map (λ w. w.now) l.words.items) left × IsTrimmed left l.rest)

abbrev pub decreases-loop-rest : goal.decreases-loop-rest
decreases-loop-rest l = length l.rest
