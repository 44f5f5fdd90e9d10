use Rattle.std.proofs.Common.{◌≡◌, ◌∙◌, ◌+◌, ◌<◌, [], ◌∷◌, ◌++◌, List, ap, length, sym, take, arith}
use Rattle.std.proofs.lemmas.Grind.{common_steps}
use Rattle.std.proofs.lemmas.List.{take_more}
use Rattle.nl_types.specs.Blocks.Segments.{clean_info, info_of}
use Rattle.nl_script.specs.declared.texts.segments.SegmentRow.{SegmentRow}
use Rattle.nl_script.specs.Lines.{row_of, rows_from}
use Rattle.nl_script.proofs.ToldSegments.{rows-more}
use Rattle.nl_script.proofs.lines.told_rows.Goals as goal

pub loop-segment-preserved : goal.loop-segment-preserved
loop-segment-preserved g c =
    let layout = g.P.NotingPen.layout c.args.pen.now in
    let each = layout.store.segments.each in
    let n = c.loop-segment.segment in
    let rows = c.loop-segment.rows.items in
    let there : n < length each = omega (arith, c.loop-segment-test.true, c.requires.all) in
    let pushed : c.push.new.self.items ≡ rows ++ c.in-Ok.row ∷ [] = grind (arith, common_steps) in
    let long_so_far : 0 + length (take n each) ≡ n = grind (arith, common_steps) in
    let numbered : c.new.result ≡ n = grind (arith, common_steps) in
    let row : c.in-Ok.row ≡ row_of c.args.long layout n (info_of each n) =
    c.in-Ok.ensures.told ∙ ap (λ k. row_of c.args.long layout k (info_of each k)) numbered in
    let more =
    sym (rows-more c.args.long layout 0 n (take n each) (info_of each n) long_so_far)
    ∙ ap (rows_from c.args.long layout 0) (sym (take_more each n clean_info there)) in
    record {
      counted = grind (arith, common_steps);
      within = omega (arith, c.loop-segment-test.true);
      room = omega (arith, c.loop-segment.invariant.room, c.push.ensures.capacity);
      so_far =
          pushed
          ∙ (ap (λ (xs : List SegmentRow). xs ++ c.in-Ok.row ∷ []) c.loop-segment.invariant.so_far
          ∙ ap (λ (r : SegmentRow). rows_from c.args.long layout 0 (take n each) ++ r ∷ []) row)
          ∙ more;
    }
