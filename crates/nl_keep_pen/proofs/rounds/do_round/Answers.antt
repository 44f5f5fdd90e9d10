use Rattle.std.proofs.Common.{◌∙◌, refl, arith}
use Rattle.nl_commit.specs.Layout.{MeansWorld}
use Rattle.nl_keep.specs.Facts.Tidied.{leads_on, leads_to_itself}
use Rattle.nl_keep_pen.proofs.rounds.do_round.Goals as goal

pub loop-init : goal.loop-init
loop-init g c = record {
  less = c.requires;
  same = refl;
  tidies = λ moment early. leads_to_itself moment (MeansWorld c.args.pen.now);
}

pub loop-preserved : goal.loop-preserved
loop-preserved g c = record {
  less = omega (arith, c.go_on.ensures.moment, c.go_on.ensures.period, c.loop.invariant.less);
  same = c.go_on.ensures.moment ∙ c.loop.invariant.same;
  tidies = λ moment early.
      leads_on moment (MeansWorld c.args.pen.now) (MeansWorld c.loop.pen) (MeansWorld c.go_on.new.pen)
      (c.loop.invariant.tidies moment early)
      (c.go_on.ensures.tidies moment (omega (arith, early, c.loop.invariant.same)));
}

pub returns : goal.returns
returns g c moment early =
    leads_on moment (MeansWorld c.args.pen.now) (MeansWorld c.loop.pen) (MeansWorld c.go_on.new.pen)
    (c.loop.invariant.tidies moment early)
    (c.go_on.ensures.tidies moment (omega (arith, early, c.loop.invariant.same)))
