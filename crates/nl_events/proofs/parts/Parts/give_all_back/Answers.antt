use Rattle.std.proofs.Common.{ap, subst, sym}
use Rattle.nl_commit.specs.CleaningEvents.{kept_numbers}
use Rattle.nl_commit.specs.Layout.{IsPen, layout_of}
use Rattle.nl_commit.specs.Volume.{Lists}
use Rattle.nl_events.specs.Facts.CountedPens.{counts-over}
use Rattle.nl_events.specs.Facts.GivenBack.{pen-given_back}
use Rattle.nl_events.proofs.parts.Parts.give_all_back.Goals as goal

pub invariant_of-self : goal.invariant_of-self
invariant_of-self g c =
    let store = g.V.Vstore.store c.self.inside.store in
    record {
      pen = subst (λ (lists : Lists). IsPen (layout_of lists store)) (sym c.give_all_back.ensures)
          (pen-given_back (layout_of c.self.inside.tables.lists store) c.self.invariant.pen);
      counts =
          counts-over c.self.inside.tables.lists c.give_all_back.new.self.lists store c.self.inside.needed
          (ap kept_numbers c.give_all_back.ensures) c.self.invariant.counts;
    }
