use Rattle.std.proofs.Common.{drop}
use Rattle.nl_script.specs.AnswerTexts.{name_texts}
use Rattle.nl_script.specs.Facts.Appending.{GoesOn}
use Rattle.nl_script.proofs.texts.answers.name_lines.Given as goal

-- the writer got the lines so far
abbrev pub invariant-loop-named : goal.invariant-loop-named
invariant-loop-named g l =
    GoesOn (g.W.Write.contents l.fn.out) (g.W.Write.contents l.out) (name_texts (drop l.named-index l.names))
    (name_texts l.names)
