use Rattle.std.proofs.Common.{◌<◌, List, length, sym, subst}
use Rattle.nl_folders.proofs.Choosing.{make_chosen}
use Rattle.nl_folders.specs.declared.sides.Step.{Step}
use Rattle.nl_folders.specs.Private.Sides.{AreMatched, MayMake, TwoSides}
use Rattle.nl_folders.specs.Spelled.{IsNameable}
use Rattle.nl_folders.proofs.sides.Sides.make.Goals as goal

pub invariant_of-self-2 : goal.invariant_of-self-2
invariant_of-self-2 c =
    let i = c.self.inside in
    let s : TwoSides = record {
      present = i.present.now;
      wanted = i.wanted.now;
      steps = i.steps;
      gone = i.gone;
      come = i.come;
    } in
    let place = c.args.place in
    let within : place < length s.wanted =
    subst (λ (t : TwoSides). place < length t.wanted) (sym c.self.view_is) c.requires.within in
    let may : IsNameable s.present → IsNameable s.wanted → MayMake s place =
    subst (λ (t : TwoSides). IsNameable t.present → IsNameable t.wanted → MayMake t place)
    (sym c.self.view_is) c.requires.may in
    subst (λ (steps : List Step).
    AreMatched (record {
      present = s.present;
      wanted = s.wanted;
      steps = steps;
      gone = s.gone;
      come = c.set.new.flags;
    })) (sym c.in_ok-push.ensures.ok)
    (make_chosen s place c.set.new.flags c.self.invariant within may c.set.ensures)
