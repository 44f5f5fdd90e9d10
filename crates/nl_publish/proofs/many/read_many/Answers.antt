use Rattle.std.proofs.Common.{List, ap, sym, ◌∙◌, subst}
use Rattle.std.specs.Prelude.{map}
use Rattle.std.specs.List.{AllZip}
use Rattle.nl_publish.specs.Jobs.{AreAnswers, AreLanesOver, AreLaterReaders, HasRunBy, HaveLearned, LaneView, all_back, idle}
use Rattle.nl_publish.proofs.Lanes.{all_later, back_later, back_learned, lanes_over, none_answered}
use Rattle.nl_publish.proofs.many.read_many.Goals as goal

pub gather-requires-clause-lanes : goal.gather-requires-clause-lanes
gather-requires-clause-lanes g c =
    let r = g.P.FileReader in
    let m = c.args.mount.now in
    let jobs = c.args.jobs.now in
    let old = c.args.readers.now in
    let now = c.run_lanes.new.lanes in
    let run =
    subst (λ (lanes : List (LaneView g.row.P.Denot)). AllZip (HasRunBy r.known r.with_known m jobs) lanes now)
    (c.as_mut_slice-lanes.ensures.value ∙ c.in-Ok-take_out.ensures.lanes) c.run_lanes.ensures in
    subst (λ (places : List g.row.P.Denot). AreLanesOver r.known m jobs places now)
    (sym c.in-Ok-take_out.ensures.readers)
    (lanes_over r.known r.with_known r.taken r.left r.joined c.keep_laws.ensures m jobs old now run)

pub gather-requires-clause-answers : goal.gather-requires-clause-answers
gather-requires-clause-answers g c =
    subst (AreAnswers c.args.mount.now c.args.jobs.now) (sym (c.as_mut_slice.ensures.value ∙ c.in-Ok.ensures))
    (none_answered c.args.mount.now c.args.jobs.now)

pub returns-in_default-clause-later : goal.returns-in_default-clause-later
returns-in_default-clause-later g c =
    let r = g.P.FileReader in
    all_later r.known r.with_known r.taken r.left r.joined c.keep_laws.ensures c.args.readers.now

pub returns-in_default-take_out-clause-later : goal.returns-in_default-take_out-clause-later
returns-in_default-take_out-clause-later g c =
    let r = g.P.FileReader in
    subst (AreLaterReaders r.known r.with_known c.args.readers.now) (sym c.in_default-take_out.ensures.same)
    (all_later r.known r.with_known r.taken r.left r.joined c.keep_laws.ensures c.args.readers.now)

pub returns-clause-later : goal.returns-clause-later
returns-clause-later g c =
    let r = g.P.FileReader in
    let old = c.args.readers.now in
    let m = c.args.mount.now in
    let jobs = c.args.jobs.now in
    let now = c.run_lanes.new.lanes in
    let run =
    subst (λ (lanes : List (LaneView g.row.P.Denot)). AllZip (HasRunBy r.known r.with_known m jobs) lanes now)
    (c.as_mut_slice-lanes.ensures.value ∙ c.in-Ok-take_out.ensures.lanes) c.run_lanes.ensures in
    let back =
    c.gather.ensures.readers
    ∙ ap (λ (places : List g.row.P.Denot). all_back r.joined r.taken places now)
    c.in-Ok-take_out.ensures.readers in
    subst (AreLaterReaders r.known r.with_known old) (sym back)
    (back_later r.known r.with_known r.taken r.left r.joined c.keep_laws.ensures m jobs old now run)

pub returns-clause-learned : goal.returns-clause-learned
returns-clause-learned g c =
    let r = g.P.FileReader in
    let old = c.args.readers.now in
    let m = c.args.mount.now in
    let jobs = c.args.jobs.now in
    let now = c.run_lanes.new.lanes in
    let run =
    subst (λ (lanes : List (LaneView g.row.P.Denot)). AllZip (HasRunBy r.known r.with_known m jobs) lanes now)
    (c.as_mut_slice-lanes.ensures.value ∙ c.in-Ok-take_out.ensures.lanes) c.run_lanes.ensures in
    let back =
    c.gather.ensures.readers
    ∙ ap (λ (places : List g.row.P.Denot). all_back r.joined r.taken places now)
    c.in-Ok-take_out.ensures.readers in
    subst (HaveLearned r.known m) (sym back)
    (back_learned r.known r.with_known r.taken r.left r.joined c.keep_laws.ensures m jobs old now run)
