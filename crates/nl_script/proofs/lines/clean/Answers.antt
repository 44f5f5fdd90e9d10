use Rattle.std.proofs.Common.{ℕ, inl, subst}
use Rattle.nl_commit.specs.Layout.{Layout}
use Rattle.nl_script.proofs.lines.clean.Goals as goal

pub returns-in-Ok : goal.returns-in-Ok
returns-in-Ok g c =
    let shown : Layout = g.V.Volume.habits.view c.args.volume.now in
    let told = c.run_round.ensures c.args.moment in
    record {
      text = told.text;
      does = inl (record {
        job = c.in-Ok.job;
        planned =
            g.met.V.Volume.plans shown c.args.config.now c.args.moment c.in-Ok.job
            (subst (λ (now : ℕ). g.V.Job.Round.habits.plans shown c.args.config.now now c.in-Ok.job)
            c.new.ensures
            (subst (λ (l : Layout). g.V.Job.Round.habits.plans l c.args.config.now c.new.result c.in-Ok.job)
            c.pen.ensures c.in-Ok.ensures.planned));
        sum = told.does.0;
        over = told.does.1;
        end_is = told.does.2;
      });
      written = told.written;
    }
