use Rattle.std.proofs.Common.{◌∙◌, ap, sym, inr}
use Rattle.nl_commit.specs.Layout.{Layout}
use Rattle.nlvol.proofs.SharedRounds.{fewer_left}
use Rattle.nlvol.proofs.script_volume.step_round.Goals as goal

pub returns-clause-stepped : goal.returns-clause-stepped
returns-clause-stepped g c = inr c.clean_step.ensures

pub returns-clause-fewer : goal.returns-clause-fewer
returns-clause-fewer g c =
    let rounds = g.G.Round.habits in
    let round = c.args.round.now in
    let there =
    ap (λ (l : Layout). rounds.next round l) (sym c.pen.ensures) ∙ sym c.next.ensures ∙ c.in_ok-next.was in
    fewer_left rounds g.met.G.Round.ends c.args.locked.now c.clean_step.new.self round
    c.clean_step.new.round c.in_ok-next.field-0 c.clean_step.result c.means_a_world.ensures there
    c.clean_step.ensures
