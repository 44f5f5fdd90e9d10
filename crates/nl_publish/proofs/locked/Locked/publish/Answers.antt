use Rattle.std.proofs.Common.{inl, inr, refl}
use Rattle.nl_publish.proofs.Running.{keeps_on, keeps_same, tried_shown}
use Rattle.nl_publish.proofs.locked.Locked.publish.Goals as goal

pub returns-then-has_published_all : goal.returns-then-has_published_all
returns-then-has_published_all g c = record {
  kept = keeps_same c.args.self.now c.args.self.now refl;
  tried = inl c.if-has_published_all.ensures;
}

pub returns-then-hand_over : goal.returns-then-hand_over
returns-then-hand_over g c = record {
  kept =
      keeps_on c.args.self.now c.hand_over.new.self c.show.new.self c.hand_over.ensures.kept c.show.ensures.kept;
  tried =
      tried_shown c.args.self.now c.hand_over.new.self c.show.new.self c.show.result
      c.hand_over.ensures.kept.0.counts c.if-hand_over.ensures.handed c.show.ensures.shown;
}

pub returns-else-hand_over : goal.returns-else-hand_over
returns-else-hand_over g c = record {
  kept = c.hand_over.ensures.kept;
  tried = inr c.if-hand_over.ensures.handed;
}
