use Rattle.std.proofs.Common.{ap, subst, sym, ◌∙◌}
use Rattle.nl_commit.specs.Layout.{layout_of}
use Rattle.nl_commit.specs.Volume.{Lists}
use Rattle.nl_events.specs.NeededBlocks.{IsBlank}
use Rattle.nl_events.proofs.parts.Parts.format.Goals as goal

pub first_checkpoint-requires-clause-blank : goal.first_checkpoint-requires-clause-blank
first_checkpoint-requires-clause-blank g c =
    subst (λ (l : Lists). IsBlank (layout_of l (g.V.Vstore.store c.args.store)))
    (sym c.in_ok-tables.ensures.blank) c.requires

pub returns-clause-formatted : goal.returns-clause-formatted
returns-clause-formatted g c = λ geometry pages failures is.
    c.in_ok-first_checkpoint.ensures.formatted geometry pages failures
    (ap (λ (l : Lists). layout_of l (g.V.Vstore.store c.args.store)) c.in_ok-tables.ensures.blank ∙ is)
