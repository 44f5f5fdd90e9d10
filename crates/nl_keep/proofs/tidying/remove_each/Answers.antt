use Rattle.std.proofs.Common.{◌≡◌, ◌+◌, List, [], ◌∷◌, ◌++◌, ap, sym, ◌∙◌, subst, drop, take}
use Rattle.std.proofs.lemmas.List.{take_more}
use Rattle.std.proofs.lemmas.Result.{err_from_is_err_and}
use Rattle.nl_types.specs.declared.row.Row.{Row}
use Rattle.nl_keep.specs.MinorOnes.{TakesOutAll, minor_ones}
use Rattle.nl_keep.specs.Volumes.{LeadsTo}
use Rattle.nl_keep.proofs.ForgetRefusals.{minor_ones_refused, split_at}
use Rattle.nl_keep.proofs.MinorRemovals.{removes_more, removes_none}
use Rattle.nl_keep.proofs.tidying.remove_each.Goals as goal

pub loop-row-init : goal.loop-row-init
loop-row-init g c = removes_none (g.V.Volume.means c.args.volume.now)

pub loop-row-preserved : goal.loop-row-preserved
loop-row-preserved g c =
    let i = c.loop-row.row-index in
    let rows = c.args.rows.now in
    let row = c.row-item.result in
    let next : take (i + 1) rows ≡ take i rows ++ row ∷ [] =
    take_more rows i row c.loop-row-test.true
    ∙ ap (λ (r : Row). take i rows ++ r ∷ []) (sym c.row-item.is) in
    let old = g.V.Volume.means c.args.volume.now in
    let new = g.V.Volume.means c.remove_if_minor.new.volume in
    subst (λ (rs : List Row). LeadsTo (TakesOutAll (minor_ones rs)) old new) (sym next)
    (removes_more (take i rows) row old (g.V.Volume.means c.loop-row.volume) new c.loop-row.invariant
    c.in_ok-remove_if_minor.ensures.taken)

pub returns-in_err-remove_if_minor-clause-refused : goal.returns-in_err-remove_if_minor-clause-refused
returns-in_err-remove_if_minor-clause-refused g c =
    let p = err_from_is_err_and c.from_residual.result c.from_residual.ensures.1 in
    let i = c.loop-row.row-index in
    let rows = c.args.rows.now in
    let row = c.row-item.result in
    rw (p.1, p.2)
    (minor_ones_refused rows (take i rows) row (drop (i + 1) rows) c.in_err-remove_if_minor.field-0.0
    (g.V.Volume.means c.args.volume.now) (g.V.Volume.means c.loop-row.volume)
    (split_at rows i row c.loop-row-test.true c.row-item.is) c.loop-row.invariant
    c.in_err-remove_if_minor.ensures.refused)
