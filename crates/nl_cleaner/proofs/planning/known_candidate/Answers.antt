use Rattle.std.proofs.Common.{◌≡◌, ℕ, ◌-◌, Bool, false, ◌&&◌, List, ap, subst, ◌∙◌}
use Rattle.std.specs.Prelude.{nat_le, slice_index_or}
use Rattle.nl_types.specs.declared.segment.SegmentInfo.{SegmentInfo}
use Rattle.nl_commit.specs.CleanerViews.{needed_after}
use Rattle.nl_cleaner.specs.Plan.{candidate_by, is_dirty, reclaimable}
use Rattle.nl_cleaner.proofs.ByCounts.{count-of, too-few-used}
use Rattle.nl_cleaner.proofs.planning.known_candidate.Goals as goal

pub returns-then-may_qualify : goal.returns-then-may_qualify
returns-then-may_qualify g c = λ below is.
    c.if_enough.ensures
    ∙ ap (candidate_by c.args.info c.args.least c.args.segment) (c.reclaimable.ensures below is)
    ∙ ap (λ (i : SegmentInfo).
    candidate_by i c.args.least c.args.segment (reclaimable c.args.pen.now below c.args.segment))
    c.requires.info

pub returns-else-may_qualify : goal.returns-else-may_qualify
returns-else-may_qualify g c = λ below is.
    let needed : c.needed_of.result ≡ needed_after c.args.pen.now below c.args.segment =
    c.needed_of.ensures ∙ ap (λ (counts : List ℕ). slice_index_or counts c.args.segment 0) is
    ∙ count-of c.args.pen.now below c.args.segment c.requires.segment in
    too-few-used c.args.pen.now below c.args.least c.args.segment
    (subst (λ (i : SegmentInfo).
    (is_dirty i.state && nat_le c.args.least (i.used - needed_after c.args.pen.now below c.args.segment))
    ≡ false)
    c.requires.info
    (subst
    (λ (n : ℕ). (is_dirty c.args.info.state && nat_le c.args.least (c.args.info.used - n)) ≡ false) needed
    (subst (λ (t : Bool). t ≡ false) c.may_qualify.ensures c.if-may_qualify.false)))
