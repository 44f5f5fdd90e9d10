use Rattle.std.proofs.Common.{◌≡◌, length, arith}
use Rattle.std.proofs.lemmas.Result.{err_from_is_err_and}
use Rattle.nl_vstore.specs.Logs.{contents_of}
use Rattle.nl_segwriter.specs.Images.{page_in}
use Rattle.nl_segwriter.specs.Writing.{held_in}
use Rattle.nl_segwriter.proofs.ImageLogs.{log_held_with, pages_there, tags_told}
use Rattle.nl_segwriter.proofs.images.read_log.Goals as goal

pub returns-in_default-clause-only : goal.returns-in_default-clause-only
returns-in_default-clause-only c = λ log on inside.
    absurd (c.in_default.not-Some (contents_of log)
    (c.summary_at.ensures.only (contents_of log) on.fits on.summary))

pub returns-in_err-hold_pages-clause-only : goal.returns-in_err-hold_pages-clause-only
returns-in_err-hold_pages-clause-only c = λ log on inside.
    let p = err_from_is_err_and c.from_residual.result c.from_residual.ensures.1 in
    let count : length c.tags-tags.result.now ≡ length log.payload =
    tags_told log c.in-Some.summary c.tags-tags.result.now c.tags-tags.ensures.tags
    (c.in-Some.ensures.only (contents_of log) on.fits on.summary) in
    let only =
    c.in_err-hold_pages.ensures.only
    (λ k low. pages_there c.args.at log (page_in c.args.pages.now) on k (omega (arith, low, count))) in
    rw (p.1, p.2) only

pub returns-clause-held : goal.returns-clause-held
returns-clause-held c =
    log_held_with c.args.at c.args.end c.in-Some.summary c.tags-tags.result.now (held_in c.args.payload.now)
    (held_in c.hold_pages.new.payload) (page_in c.args.pages.now)
    c.tags-tags.ensures.tags c.in-Some.ensures.fits c.in-Some.ensures.found
    (c.requires.free c.args.at (omega arith) c.requires.order)
    c.in_ok-hold_pages.ensures.held c.in_ok-hold_pages.ensures.others
    (omega (arith, c.if-tags-end.false, c.requires.order))
