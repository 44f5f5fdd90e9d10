use Rattle.std.proofs.Common.{sym, ◌∙◌}
use Rattle.std.proofs.lemmas.Result.{err_from_is_err_and}
use Rattle.nl_backups.proofs.PassedOn.{look_to_change, off_to_change, pins_to_change}
use Rattle.nl_backups.proofs.Repinned.{none_wanted, one_wanted}
use Rattle.nl_backups.proofs.pinning.wanted.Goals as goal

pub returns-in_err-pins-clause-refused : goal.returns-in_err-pins-clause-refused
returns-in_err-pins-clause-refused c =
    let p = err_from_is_err_and c.from_residual.result c.from_residual.ensures.1 in
    rw (p.1, p.2)
    (λ image of. pins_to_change image c.in_err-pins.field-0.0 (c.in_err-pins.ensures.refused image of))

pub returns-in_err-tree-clause-refused : goal.returns-in_err-tree-clause-refused
returns-in_err-tree-clause-refused c =
    let exits = c.from_residual-in_err-tree in
    let p = err_from_is_err_and exits.result exits.ensures.1 in
    rw (p.1, p.2)
    (λ image of. look_to_change image c.in_err-tree.field-0.0 (c.in_err-tree.ensures.refused image of))

pub returns-clause-wanted : goal.returns-clause-wanted
returns-clause-wanted c image of has_rows =
    one_wanted c.args.moment c.args.wish.now c.in_ok-pins.pins.lines c.in_ok-pins-2.pins.lines
    c.args.rows.now c.in_ok-tree.tree image (c.in_ok-pins.ensures.lines image of) has_rows
    (sym c.is_pinned_so.ensures ∙ c.if-is_pinned_so.false) c.in_ok-pins-2.ensures.lines
    (c.in_ok-tree.ensures.tree image of)

pub returns-then-is_pinned_so-clause-wanted : goal.returns-then-is_pinned_so-clause-wanted
returns-then-is_pinned_so-clause-wanted c image of has_rows =
    none_wanted c.args.moment c.args.wish.now c.in_ok-pins.pins.lines image (c.in_ok-pins.ensures.lines image of)
    (sym c.is_pinned_so.ensures ∙ c.if-is_pinned_so.true)

pub returns-in_err-pins-2-clause-refused : goal.returns-in_err-pins-2-clause-refused
returns-in_err-pins-2-clause-refused c =
    let exits = c.from_residual-in_err-pins-2 in
    let p = err_from_is_err_and exits.result exits.ensures.1 in
    rw (p.1, p.2)
    (λ image of.
    off_to_change image c.args.wish.now c.in_ok-pins.pins.lines c.in_err-pins-2.field-0.0
    (c.in_ok-pins.ensures.lines image of) c.in_err-pins-2.ensures.refused)
