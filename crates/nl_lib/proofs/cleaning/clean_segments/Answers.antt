use Rattle.std.proofs.Common.{◌+◌, arith}
use Rattle.std.proofs.lemmas.Grind.{common_steps}
use Rattle.nl_lib.specs.CleanedSegments.{none_cleaned, one_more, refused_by}
use Rattle.nl_lib.proofs.CleanedLists.{none-left, one-cleaned, one-refused, with-count}
use Rattle.nl_lib.proofs.cleaning.clean_segments.Goals as goal

pub returns-in-Err : goal.returns-in-Err
returns-in-Err g c =
    let l = c.loop-segment in
    let segments = c.args.segments.now in
    let e = c.in-Err.refusal in
    with-count c.args.now segments c.args.pen.now c.clean_segment.new.pen (refused_by e)
    (l.retired + 0) l.retired (omega arith)
    (l.invariant.so_far (refused_by e) c.clean_segment.new.pen
    (one-refused c.args.now segments l.segment-index c.segment-item.result c.loop-segment-test.true
    c.segment-item.is l.pen c.clean_segment.new.pen e c.in-Err.ensures))

pub loop-segment-preserved : goal.loop-segment-preserved
loop-segment-preserved g c = record {
  count = grind (arith, common_steps);
  so_far = λ result new rest.
      let l = c.loop-segment in
      let segments = c.args.segments.now in
      with-count c.args.now segments c.args.pen.now new result (l.retired + (result.retired + 1))
      (l.retired + 1 + result.retired) (omega arith)
      (l.invariant.so_far (one_more result) new
      (one-cleaned c.args.now segments l.segment-index c.segment-item.result c.loop-segment-test.true
      c.segment-item.is l.pen c.clean_segment.new.pen new result
      c.in-Ok.field-0 c.in-Ok.ensures rest));
}

pub returns : goal.returns
returns g c =
    let l = c.loop-segment in
    let segments = c.args.segments.now in
    with-count c.args.now segments c.args.pen.now l.pen none_cleaned (l.retired + 0) l.retired (omega arith)
    (l.invariant.so_far none_cleaned l.pen
    (none-left c.args.now l.segment-index segments l.pen (omega arith)))
