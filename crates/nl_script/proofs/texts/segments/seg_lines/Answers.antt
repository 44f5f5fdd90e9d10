use Rattle.std.proofs.Common.{◌≡◌, ◌∙◌, ◌+◌, ◌<◌, ◌++◌, ap, sym, ℕ, Bool, List, None, length, drop, get_or}
use Rattle.std.proofs.lemmas.List.{at_drop_more}
use Rattle.nl_types.specs.Blocks.Segments.{clean_info}
use Rattle.nl_script.specs.declared.texts.segments.SegmentRow.{SegmentRow}
use Rattle.nl_script.specs.SegmentLines.{listed_seg_text, seg_texts_from}
use Rattle.nl_script.specs.Facts.Appending.{goes_on-more}
use Rattle.nl_script.proofs.texts.segments.seg_lines.Goals as goal

-- stands for the row of a segment that there isn't
abbrev no_row : SegmentRow
no_row = record { info = clean_info; needed = None }

-- the line of the next segment, and those of the segments behind it
seg_texts_from-drop : (all : Bool) (rows : List SegmentRow) (i segment : ℕ) → i < length rows → segment ≡ i
    → seg_texts_from all i (drop i rows)
    ≡ listed_seg_text all segment (get_or rows i no_row) ++ seg_texts_from all (i + 1) (drop (i + 1) rows)
seg_texts_from-drop all rows i segment within numbered =
    at_drop_more (seg_texts_from all i) rows i no_row within
    ∙ ap (λ (n : ℕ).
    listed_seg_text all n (get_or rows i no_row) ++ seg_texts_from all (i + 1) (drop (i + 1) rows))
    (sym numbered)

pub loop-segment-preserved : goal.loop-segment-preserved
loop-segment-preserved g c =
    let next =
    seg_texts_from-drop c.args.all c.args.rows.now c.loop-segment.segment c.new.result
    c.loop-segment-test.true c.new.ensures in
    goes_on-more _ _ _ _ _ _ _ next c.loop-segment.invariant c.in_ok-listed_seg_line.ensures
