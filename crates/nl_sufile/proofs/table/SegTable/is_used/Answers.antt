use Rattle.std.proofs.Common.{◌≡◌, ◌∙◌, ◌/◌, refl, ap}
use Rattle.std.specs.Prelude.{slice_get}
use Rattle.nl_types.specs.declared.segment.SegmentInfo.{SegmentInfo}
use Rattle.nl_types.specs.Blocks.Segments.{info_of}
use Rattle.nl_sufile.proofs.UsedTests.{none_from_err, not_used, used_test}
use Rattle.nl_sufile.proofs.table.SegTable.is_used.Goals as goal

pub returns-in-Ok : goal.returns-in-Ok
returns-in-Ok c =
    used_test c.args.self.now c.args.block c.get-in-Ok.result c.blocks-blocks.result c.in-Ok.info.used
    c.blocks-blocks.ensures.limits c.get-in-Ok.ensures c.blocks-blocks.ensures.blocks
    (let place : c.new.result ≡ c.args.block / c.args.self.now.blocks = c.new.ensures
    ∙ rw (c.get.ensures, c.blocks-blocks.ensures.blocks) refl in
    ap (λ (info : SegmentInfo). info.used) (c.in-Ok.ensures.known ∙ ap (info_of c.args.self.now.each) place))

pub returns-in-Err : goal.returns-in-Err
returns-in-Err c =
    let place : c.new.result ≡ c.args.block / c.args.self.now.blocks =
    c.new.ensures ∙ rw (c.get.ensures, c.blocks-blocks.ensures.blocks) refl in
    let none = none_from_err (slice_get c.args.self.now.each c.new.result) _ _ c.in-Err.ensures.info in (
      λ no. absurd (cc),
      λ used.
          absurd
          (not_used c.args.self.now c.args.block c.blocks-blocks.ensures.limits (rw place at none) used),
    )
