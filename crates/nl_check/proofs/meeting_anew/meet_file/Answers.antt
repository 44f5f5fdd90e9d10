use Rattle.std.proofs.Common.{sym, subst}
use Rattle.nl_types.specs.Blocks.Roots.{Pages}
use Rattle.nl_layout.specs.Root.{root_of}
use Rattle.nl_layout.specs.declared.root.Root.{Root as CodeRoot}
use Rattle.nl_check.specs.Private.ChangedFiles.{IsFileMet}
use Rattle.nl_check.proofs.FilesBeside.{empty-met}
use Rattle.nl_check.proofs.meeting_anew.meet_file.Goals as goal

pub returns-in-Empty-clause-yes : goal.returns-in-Empty-clause-yes
returns-in-Empty-clause-yes g c =
    let pages : Pages = g.V.VRead.pages c.args.store.now in
    subst (λ (r : CodeRoot). IsFileMet pages (root_of c.args.before) (root_of r) c.args.met.now
    c.args.met.now 0)
    (sym c.in-Empty.is) (empty-met pages (root_of c.args.before) c.args.met.now)
