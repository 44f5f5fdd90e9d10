use Rattle.std.proofs.Common.{List, subst}
use Rattle.std.proofs.lemmas.Result.{err_from_is_err_and}
use Rattle.std.specs.Vec.Iter.{into_iter_items}
use Rattle.nl_types.specs.declared.event.Change.{Change}
use Rattle.nl_keep.specs.Volumes.{LeadsTo}
use Rattle.nl_keep.proofs.Calls.{GoOn, go_on_next}
use Rattle.nl_keep.proofs.StoreRefusals.{calls_refused}
use Rattle.nl_keep.proofs.making.apply_all.Goals as goal

pub loop-call-preserved : goal.loop-call-preserved
loop-call-preserved g c =
    let old = g.V.Volume.means c.args.volume.now in
    let mid = g.V.Volume.means c.loop-call.volume in (
      tt,
      tt,
      go_on_next c.args.calls (into_iter_items c.next.new.self) c.in-Some.call old mid
          (g.V.Volume.means c.apply_call.new.volume)
          (subst (λ (left : List Change). LeadsTo (GoOn c.args.calls left) old mid) c.in-Some.ensures.steps.0
          c.loop-call.invariant.2) c.in_ok-apply_call.ensures.done,
    )

pub returns-in_err-apply_call-clause-refused : goal.returns-in_err-apply_call-clause-refused
returns-in_err-apply_call-clause-refused g c =
    let p = err_from_is_err_and c.from_residual.result c.from_residual.ensures.1 in
    let old = g.V.Volume.means c.args.volume.now in
    let mid = g.V.Volume.means c.loop-call.volume in
    rw (p.1, p.2)
    (calls_refused c.args.calls (into_iter_items c.next.new.self) c.in-Some.call c.in_err-apply_call.field-0.0 old mid
    (subst (λ (left : List Change). LeadsTo (GoOn c.args.calls left) old mid) c.in-Some.ensures.steps.0
    c.loop-call.invariant.2)
    c.in_err-apply_call.ensures.refused)
