use Rattle.std.proofs.Common.{◌∙◌, []}
use Rattle.std.proofs.lemmas.Result.{err_from_is_err_and}
use Rattle.nl_types.specs.Blocks.Segments.{Segments}
use Rattle.nl_segwriter.specs.Images.{page_in}
use Rattle.nl_segwriter.specs.Writing.{held_in}
use Rattle.nl_segwriter.proofs.ImageLogs.{more_read, next_log}
use Rattle.nl_segwriter.proofs.images.read_logs.Goals as goal

pub returns-in_err-at-clause-only : goal.returns-in_err-at-clause-only
returns-in_err-at-clause-only c = λ logs fill.
    let p = err_from_is_err_and c.from_residual.result c.from_residual.ensures.1 in
    let rest = c.loop-at.invariant.read.only logs fill in
    let n = next_log c.loop-at.at c.args.end rest.0 (page_in c.args.pages.now) c.loop-at-test.true rest.1 in
    let only = c.in_err-at.ensures.only n.0 n.1 n.2 in
    rw (p.1, p.2) only

pub loop-at-preserved : goal.loop-at-preserved
loop-at-preserved c =
    let none : Segments = record { blocks = 0; each = [] } in
    record {
      read =
          more_read c.args.first c.loop-at.at c.in_ok-at.at c.args.end none (held_in c.args.payload.now)
          (held_in c.loop-at.payload) (held_in c.read_log.new.payload) (page_in c.args.pages.now)
          c.loop-at.invariant.read c.in_ok-at.ensures.held c.in_ok-at.ensures.others c.in_ok-at.ensures.only
          c.loop-at-test.true;
      size = c.in_ok-at.ensures.same_size ∙ c.loop-at.invariant.size;
    }
