use Rattle.std.proofs.Common.{◌≡◌, sym, ap, subst, ◌∙◌, refl, None, Some}
use Rattle.nl_publish.specs.Locks.{HeldPen, IsReady}
use Rattle.nl_publish.proofs.Running.{gave, ready_none, stuck}
use Rattle.nl_publish.proofs.locked.Locked.give_back.Goals as goal

pub returns-in-None : goal.returns-in-None
returns-in-None g c =
    let old : HeldPen = c.args.self.now in
    ready_none old (sym (ap (λ (h : HeldPen). h.lost) c.self.view_is) ∙ c.in-None.is)

pub returns-in-Ok : goal.returns-in-Ok
returns-in-Ok g c =
    let old : HeldPen = c.args.self.now in
    let was : old.lost ≡ Some c.in-Some.number =
    sym (ap (λ (h : HeldPen). h.lost) c.self.view_is) ∙ c.in-Some.is in
    subst (λ (h : HeldPen).
    IsReady old (record {
      volume = h.volume;
      published = h.published;
      history = h.history;
      unsent = h.unsent;
      lost = None;
      layout = h.layout;
      refusals = h.refusals;
    }))
    (sym c.self-in-Some.view_is)
    (gave old c.run_unmount.new.self c.in-Some.number c.in-Ok.ensures.0 was c.in-Ok.ensures.1)

pub returns-in-Err : goal.returns-in-Err
returns-in-Err g c =
    let old : HeldPen = c.args.self.now in
    let was : old.lost ≡ Some c.in-Some.number =
    sym (ap (λ (h : HeldPen). h.lost) c.self.view_is) ∙ c.in-Some.is in (
      refl,
      stuck old c.run_unmount.new.self c.in-Some.number c.in-Err.field-0 was c.in-Err.ensures,
    )
