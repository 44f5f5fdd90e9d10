use Rattle.std.proofs.Common.{refl, ◌∙◌}
use Rattle.std.proofs.lemmas.Result.{IfErr-weaker, IfOk-weaker}
use Rattle.nl_commit.specs.Layout.{MeansWorld}
use Rattle.nl_keep.specs.Shown.{ShowsKept}
use Rattle.nl_keep_pen.proofs.PinsRead.{pins_read, pins_refused}
use Rattle.nl_keep_pen.proofs.pins.pins_at.Goals as goal

pub returns-clause-pins : goal.returns-clause-pins
returns-clause-pins g c =
    IfOk-weaker c.found.result _ _ (λ pins finds w copy means kept.
    pins_read (ShowsKept (MeansWorld c.args.volume.now.pen) c.args.number) copy.tree (record {
      world = w;
      means = means;
      copy = copy;
      kept = kept;
      has = refl;
      is_tree = means.world.trees c.args.number copy kept;
    }) (means.world.trees c.args.number copy kept) c.as_slice.result.now (c.as_slice.ensures ∙ c.in_ok-path.ensures)
    c.bytes_answered-read.result c.bytes_answered-read.ensures.refused c.bytes_answered-read.ensures.read pins finds)
    c.found.ensures.found

pub returns-clause-refused : goal.returns-clause-refused
returns-clause-refused g c =
    IfErr-weaker c.found.result _ _ (λ e is w copy means kept.
    pins_refused (ShowsKept (MeansWorld c.args.volume.now.pen) c.args.number) copy.tree (record {
      world = w;
      means = means;
      copy = copy;
      kept = kept;
      has = refl;
      is_tree = means.world.trees c.args.number copy kept;
    }) (means.world.trees c.args.number copy kept) c.as_slice.result.now (c.as_slice.ensures ∙ c.in_ok-path.ensures)
    c.bytes_answered-read.result c.bytes_answered-read.ensures.refused c.bytes_answered-read.ensures.missing e is.0
    is.1)
    c.found.ensures.refused
