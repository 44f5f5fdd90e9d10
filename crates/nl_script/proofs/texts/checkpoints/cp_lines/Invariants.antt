use Rattle.std.proofs.Common.{drop}
use Rattle.nl_script.specs.CheckpointLines.{cp_texts}
use Rattle.nl_script.specs.Facts.Appending.{GoesOn}
use Rattle.nl_script.proofs.texts.checkpoints.cp_lines.Given as goal

-- the writer got the lines so far
abbrev pub invariant-loop-row : goal.invariant-loop-row
invariant-loop-row g l =
    GoesOn (g.W.Write.contents l.fn.out) (g.W.Write.contents l.out) (cp_texts (drop l.row-index l.rows))
    (cp_texts l.rows)
