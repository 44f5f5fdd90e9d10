use Rattle.std.proofs.Common.{ap, sym, ◌∙◌}
use Rattle.std.specs.Option.{option_copied}
use Rattle.nl_tree.proofs.CurrentReads.{shown_live}
use Rattle.nl_tree.proofs.overlay.Overlay.records.Goals as goal

pub returns-in-Some-clause-all : goal.returns-in-Some-clause-all
returns-in-Some-clause-all g c = λ b records holds is.
    c.records.ensures.all (b c.args.dir) records
    (sym (shown_live c.args.self.now b c.args.dir c.in-Some.slot.now
    (sym c.get.ensures.value ∙ ap option_copied c.in-Some.is) c.if-slot.true)
    ∙ is)
