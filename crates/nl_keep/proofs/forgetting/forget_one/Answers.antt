use Rattle.std.proofs.Common.{ap, ◌∙◌}
use Rattle.std.proofs.lemmas.Result.{IfErr-weaker, on_ok_weaker}
use Rattle.nl_keep.specs.Forgotten.{run_end}
use Rattle.nl_keep.proofs.ForgetRefusals.{one_stays}
use Rattle.nl_keep.proofs.Forgets.{forgets_one}
use Rattle.nl_keep.proofs.forgetting.forget_one.Goals as goal

pub returns-clause-forgets : goal.returns-clause-forgets
returns-clause-forgets g c =
    on_ok_weaker c.take_range.result (λ takes.
    forgets_one c.args.number c.run_end.result c.in_ok-rows.rows (g.V.Volume.means c.args.volume.now)
    (g.V.Volume.means c.make_plain.new.volume) (g.V.Volume.means c.rows_from.new.volume)
    (g.V.Volume.means c.take_range.new.volume) c.in_ok-make_plain.ensures.plain c.in_ok-rows.ensures.rows
    (c.run_end.ensures ∙ ap (run_end c.args.number) c.as_slice.ensures) takes)
    c.take_range.ensures.taken

pub returns-clause-refused : goal.returns-clause-refused
returns-clause-refused g c =
    IfErr-weaker c.take_range.result _ _ (λ e.
    one_stays c.args.number c.run_end.result c.in_ok-rows.rows e (g.V.Volume.means c.args.volume.now)
    (g.V.Volume.means c.make_plain.new.volume) (g.V.Volume.means c.rows_from.new.volume)
    (g.met.V.Volume.sound c.rows_from.new.volume) c.in_ok-make_plain.ensures.plain c.in_ok-rows.ensures.rows
    (c.run_end.ensures ∙ ap (run_end c.args.number) c.as_slice.ensures))
    c.take_range.ensures.refused
