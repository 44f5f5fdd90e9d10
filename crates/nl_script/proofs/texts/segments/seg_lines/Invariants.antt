use Rattle.std.proofs.Common.{drop}
use Rattle.nl_script.specs.SegmentLines.{seg_texts, seg_texts_from}
use Rattle.nl_script.specs.Facts.Appending.{GoesOn}
use Rattle.nl_script.proofs.texts.segments.seg_lines.Given as goal

-- the writer got the lines so far
abbrev pub invariant-loop-segment : goal.invariant-loop-segment
invariant-loop-segment g l =
    GoesOn (g.W.Write.contents l.fn.out) (g.W.Write.contents l.out)
    (seg_texts_from l.all l.segment (drop l.segment l.rows)) (seg_texts l.all l.rows)
