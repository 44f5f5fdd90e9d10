use Rattle.std.proofs.Common.{◌+◌, ◌≤◌, List, length, sym, subst}
use Rattle.nl_folders.proofs.Choosing.{relocate_chosen}
use Rattle.nl_folders.specs.declared.sides.Step.{Step}
use Rattle.nl_folders.specs.Private.Sides.{AreMatched, MayMove, TwoSides}
use Rattle.nl_folders.specs.Spelled.{IsNameable}
use Rattle.nl_folders.proofs.sides.Sides.relocate.Goals as goal

pub invariant_of-self-2 : goal.invariant_of-self-2
invariant_of-self-2 c =
    let i = c.self.inside in
    let s : TwoSides = record {
      present = i.present.now;
      wanted = i.wanted.now;
      steps = i.steps;
      gone = i.gone;
      come = i.come;
    } in
    let part = c.args.part in
    let from : part.from + part.count ≤ length s.present =
    subst (λ (t : TwoSides). part.from + part.count ≤ length t.present) (sym c.self.view_is) c.requires.from in
    let to : part.to + part.count ≤ length s.wanted =
    subst (λ (t : TwoSides). part.to + part.count ≤ length t.wanted) (sym c.self.view_is) c.requires.to in
    let may : IsNameable s.present → IsNameable s.wanted → MayMove s part =
    subst (λ (t : TwoSides). IsNameable t.present → IsNameable t.wanted → MayMove t part)
    (sym c.self.view_is) c.requires.may in
    subst (λ (steps : List Step).
    AreMatched (record {
      present = s.present;
      wanted = s.wanted;
      steps = steps;
      gone = c.set.new.flags;
      come = c.set-2.new.flags;
    })) (sym c.in_ok-push.ensures.ok)
    (relocate_chosen s part c.set.new.flags c.set-2.new.flags c.self.invariant from to c.requires.some may
    c.set.ensures c.set-2.ensures)
