use Rattle.std.proofs.Common.{◌≡◌, ℕ, List, ap, ◌∙◌, arith}
use Rattle.std.specs.Prelude.{slice_index_or}
use Rattle.nl_commit.specs.CleanerViews.{needed_after}
use Rattle.nl_cleaner.proofs.ByCounts.{count-of}
use Rattle.nl_cleaner.proofs.planning.reclaimable.Goals as goal

pub returns : goal.returns
returns g c = λ below is.
    let needed : c.needed_of.result ≡ needed_after c.args.pen.now below c.args.segment =
    c.needed_of.ensures ∙ ap (λ (counts : List ℕ). slice_index_or counts c.args.segment 0) is
    ∙ count-of c.args.pen.now below c.args.segment c.requires in
    omega (arith, needed)
