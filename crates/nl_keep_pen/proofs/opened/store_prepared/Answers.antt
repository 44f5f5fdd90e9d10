use Rattle.std.proofs.Common.{subst, sym, ◌∙◌}
use Rattle.std.proofs.lemmas.Result.{err_from_is_err_and}
use Rattle.nl_types.specs.Plain.Trees.{Tree}
use Rattle.nl_keep.specs.Made.{AreMadeBy}
use Rattle.nl_keep_pen.proofs.Images.{failed, prepared, prepared_refused, unread}
use Rattle.nl_keep_pen.proofs.opened.store_prepared.Goals as goal

pub returns-clause-earlier : goal.returns-clause-earlier
returns-clause-earlier g c w means = c.in_ok-done.ensures.earlier ∙ c.in_ok-earlier.ensures.tree w means

pub returns-clause-made : goal.returns-clause-made
returns-clause-made g c =
    let done = c.in_ok-done.done.0 in
    subst (λ (t : Tree). AreMadeBy t c.args.wanted.now done.calls done.bytes) (sym c.in_ok-done.ensures.earlier)
    c.in_ok-done.ensures.made

pub returns-clause-stored : goal.returns-clause-stored
returns-clause-stored g c =
    prepared c.args.moment c.in_ok-done.done.0.number c.in_ok-earlier.earlier c.args.wanted.now c.args.volume.pen
    c.in_ok-earlier.volume.pen c.prepare_at.new.volume.pen c.in_ok-done.done.1.pen c.in_ok-earlier.ensures.tree
    c.in_ok-earlier.ensures.stays c.in_ok-prepare_at.ensures.tidies c.in_ok-done.ensures.stored

pub returns-in_err-earlier-clause-refused : goal.returns-in_err-earlier-clause-refused
returns-in_err-earlier-clause-refused g c =
    let p = err_from_is_err_and c.from_residual.result c.from_residual.ensures.1 in
    rw p.1 (λ w means.
    unread c.args.moment c.args.wanted.now w c.in_err-earlier.field-0.0 p.0 p.2
    (c.in_err-earlier.ensures.refused w means))

pub returns-in_err-prepare_at-clause-refused : goal.returns-in_err-prepare_at-clause-refused
returns-in_err-prepare_at-clause-refused g c =
    let p = err_from_is_err_and c.from_residual-in_err-prepare_at.result c.from_residual-in_err-prepare_at.ensures.1 in
    rw p.1 (λ w means.
    failed c.args.moment c.args.wanted.now w c.in_err-prepare_at.field-0.0 p.0 p.2
    c.in_err-prepare_at.ensures.refused)

pub returns-in_err-done-clause-refused : goal.returns-in_err-done-clause-refused
returns-in_err-done-clause-refused g c =
    let p = err_from_is_err_and c.from_residual-in_err-done.result c.from_residual-in_err-done.ensures.1 in
    rw (p.1, p.2)
    (prepared_refused c.args.moment c.in_ok-earlier.earlier c.args.wanted.now c.in_err-done.field-0.0
    c.args.volume.pen c.in_ok-earlier.volume.pen c.prepare_at.new.volume.pen c.in_ok-earlier.ensures.tree
    c.in_ok-earlier.ensures.stays c.in_ok-prepare_at.ensures.tidies c.in_err-done.ensures.refused)
